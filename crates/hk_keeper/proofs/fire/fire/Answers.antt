use Rattle.std.proofs.Common.{◌<◌, Some, subst, ap, ◌∙◌}
use Rattle.hk_core.specs.declared.event.Event.{Event}
use Rattle.hk_core.specs.Event.{word_of}
use Rattle.hk_table.proofs.KeeperFiring.{collects_load, collects_store, collects_swap, collects_add, collects_sub, collects_max, collects_trade}
use Rattle.hk_keeper.proofs.fire.fire.Goals as goal

pub load-requires : goal.load-requires
load-requires c =
    let h = c.args.heap.now in
    let seat = c.args.seat.now in
    let i = c.in-Load in (
      c.requires.table,
      subst (λ (e : Event). word_of e < h.table.shared.table_id.words) i.is c.requires.within,
      collects_load h.table.shared.key h.geometry h.key h.table.shared.table_id.slots seat.id seat.me c.requires.keeper i.word (c.requires.event ∙ ap Some i.is),
    )

pub store-requires : goal.store-requires
store-requires c =
    let h = c.args.heap.now in
    let seat = c.args.seat.now in
    let i = c.in-Write in (
      c.requires.table,
      subst (λ (e : Event). word_of e < h.table.shared.table_id.words) i.is c.requires.within,
      collects_store h.table.shared.key h.geometry h.key h.table.shared.table_id.slots seat.id seat.me c.requires.keeper i.word i.value (c.requires.event ∙ ap Some i.is),
    )

pub swap-requires : goal.swap-requires
swap-requires c =
    let h = c.args.heap.now in
    let seat = c.args.seat.now in
    let i = c.in-Swap in (
      c.requires.table,
      subst (λ (e : Event). word_of e < h.table.shared.table_id.words) i.is c.requires.within,
      collects_swap h.table.shared.key h.geometry h.key h.table.shared.table_id.slots seat.id seat.me c.requires.keeper i.word i.value (c.requires.event ∙ ap Some i.is),
    )

pub fetch_add-requires : goal.fetch_add-requires
fetch_add-requires c =
    let h = c.args.heap.now in
    let seat = c.args.seat.now in
    let i = c.in-Add in (
      c.requires.table,
      subst (λ (e : Event). word_of e < h.table.shared.table_id.words) i.is c.requires.within,
      collects_add h.table.shared.key h.geometry h.key h.table.shared.table_id.slots seat.id seat.me c.requires.keeper i.word i.amount (c.requires.event ∙ ap Some i.is),
    )

pub fetch_sub-requires : goal.fetch_sub-requires
fetch_sub-requires c =
    let h = c.args.heap.now in
    let seat = c.args.seat.now in
    let i = c.in-Sub in (
      c.requires.table,
      subst (λ (e : Event). word_of e < h.table.shared.table_id.words) i.is c.requires.within,
      collects_sub h.table.shared.key h.geometry h.key h.table.shared.table_id.slots seat.id seat.me c.requires.keeper i.word i.amount (c.requires.event ∙ ap Some i.is),
    )

pub fetch_max-requires : goal.fetch_max-requires
fetch_max-requires c =
    let h = c.args.heap.now in
    let seat = c.args.seat.now in
    let i = c.in-Max in (
      c.requires.table,
      subst (λ (e : Event). word_of e < h.table.shared.table_id.words) i.is c.requires.within,
      collects_max h.table.shared.key h.geometry h.key h.table.shared.table_id.slots seat.id seat.me c.requires.keeper i.word i.value (c.requires.event ∙ ap Some i.is),
    )

pub compare_exchange-requires : goal.compare_exchange-requires
compare_exchange-requires c =
    let h = c.args.heap.now in
    let seat = c.args.seat.now in
    let i = c.in-Trade in (
      c.requires.table,
      subst (λ (e : Event). word_of e < h.table.shared.table_id.words) i.is c.requires.within,
      collects_trade h.table.shared.key h.geometry h.key h.table.shared.table_id.slots seat.id seat.me c.requires.keeper i.word i.current i.new (c.requires.event ∙ ap Some i.is),
    )
