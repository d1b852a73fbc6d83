use Rattle.std.proofs.Common.{◌<◌, Some, subst, ap, ◌∙◌}
use Rattle.hk_core.specs.declared.event.Event.{Event}
use Rattle.hk_core.specs.Event.{word_of}
use Rattle.hk_table.proofs.Firing.{allows_load, allows_store, allows_swap, allows_add, allows_sub, allows_max, allows_trade}
use Rattle.hk_keeper.proofs.tests.stepping.fire.Goals as goal

pub load-requires : goal.load-requires
load-requires g c =
    let h = c.args.heap.now in
    let seat = c.args.seat.now in
    let i = c.in-Load in (
      c.requires.table,
      subst (λ (e : Event). word_of e < h.table.shared.table_id.words) i.is c.requires.within,
      allows_load h.table.shared.key h.geometry h.key _ h.table.shared.table_id.slots seat.id seat.me c.requires.pass c.requires.may i.word (c.requires.event ∙ ap Some i.is),
    )

pub store-requires : goal.store-requires
store-requires g c =
    let h = c.args.heap.now in
    let seat = c.args.seat.now in
    let i = c.in-Write in (
      c.requires.table,
      subst (λ (e : Event). word_of e < h.table.shared.table_id.words) i.is c.requires.within,
      allows_store h.table.shared.key h.geometry h.key _ h.table.shared.table_id.slots seat.id seat.me c.requires.pass c.requires.may i.word i.value (c.requires.event ∙ ap Some i.is),
    )

pub swap-requires : goal.swap-requires
swap-requires g c =
    let h = c.args.heap.now in
    let seat = c.args.seat.now in
    let i = c.in-Swap in (
      c.requires.table,
      subst (λ (e : Event). word_of e < h.table.shared.table_id.words) i.is c.requires.within,
      allows_swap h.table.shared.key h.geometry h.key _ h.table.shared.table_id.slots seat.id seat.me c.requires.pass c.requires.may i.word i.value (c.requires.event ∙ ap Some i.is),
    )

pub fetch_add-requires : goal.fetch_add-requires
fetch_add-requires g c =
    let h = c.args.heap.now in
    let seat = c.args.seat.now in
    let i = c.in-Add in (
      c.requires.table,
      subst (λ (e : Event). word_of e < h.table.shared.table_id.words) i.is c.requires.within,
      allows_add h.table.shared.key h.geometry h.key _ h.table.shared.table_id.slots seat.id seat.me c.requires.pass c.requires.may i.word i.amount (c.requires.event ∙ ap Some i.is),
    )

pub fetch_sub-requires : goal.fetch_sub-requires
fetch_sub-requires g c =
    let h = c.args.heap.now in
    let seat = c.args.seat.now in
    let i = c.in-Sub in (
      c.requires.table,
      subst (λ (e : Event). word_of e < h.table.shared.table_id.words) i.is c.requires.within,
      allows_sub h.table.shared.key h.geometry h.key _ h.table.shared.table_id.slots seat.id seat.me c.requires.pass c.requires.may i.word i.amount (c.requires.event ∙ ap Some i.is),
    )

pub fetch_max-requires : goal.fetch_max-requires
fetch_max-requires g c =
    let h = c.args.heap.now in
    let seat = c.args.seat.now in
    let i = c.in-Max in (
      c.requires.table,
      subst (λ (e : Event). word_of e < h.table.shared.table_id.words) i.is c.requires.within,
      allows_max h.table.shared.key h.geometry h.key _ h.table.shared.table_id.slots seat.id seat.me c.requires.pass c.requires.may i.word i.value (c.requires.event ∙ ap Some i.is),
    )

pub compare_exchange-requires : goal.compare_exchange-requires
compare_exchange-requires g c =
    let h = c.args.heap.now in
    let seat = c.args.seat.now in
    let i = c.in-Trade in (
      c.requires.table,
      subst (λ (e : Event). word_of e < h.table.shared.table_id.words) i.is c.requires.within,
      allows_trade h.table.shared.key h.geometry h.key _ h.table.shared.table_id.slots seat.id seat.me c.requires.pass c.requires.may i.word i.current i.new (c.requires.event ∙ ap Some i.is),
    )
