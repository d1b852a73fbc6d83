-- A pass whose seat has moved on.
use Rattle.std.proofs.Common.{◌≡◌, ◌∙◌, ap, sym, subst, ℕ}
use Rattle.std.specs.Prelude.{nat_lt}
use Rattle.hk_words.specs.declared.geometry.Geometry.{Geometry}
use Rattle.hk_model.specs.History.{History}
use Rattle.hk_table.specs.Knows.{PassView, Knows, pass, told}
use Rattle.hk_table.specs.Deeds.{Stands, the_pass}
use Rattle.hk_table.specs.Seats.{Looks, LooksFrom}
use Rattle.hk_table.specs.Passes.{IsPassOf, known}
use Rattle.hk_table.specs.declared.heap.Heap.{Heap}
use Rattle.hk_table.specs.declared.pass.Pass.{Pass}

-- one that knows the same
pub pass_with : (h : Heap) (p q : Pass) → IsPassOf h p → q.seat.table_id ≡ p.seat.table_id → q.seat.me ≡ p.seat.me → q.number ≡ p.number → q.high ≡ p.high
    → q.registers.items ≡ p.registers.items → q.begun ≡ p.begun → IsPassOf h q
pass_with h p q is table me number high registers begun =
    let same : q.seat.me.0.knows ≡ p.seat.me.0.knows = ap (λ m. m.0.knows) me in
    let know : known q ≡ known p = ap the_pass same in
    record {
      table = table ∙ is.table;
      empty = ap (λ m. m.1) me ∙ is.empty;
      is = same ∙ is.is ∙ ap (pass h.geometry) (sym know);
      stands = subst (Stands h.geometry) (sym know) is.stands;
      idle = ap (λ (k : PassView). k.flight.place) know ∙ is.idle;
      number = ap (λ (k : PassView). k.seat) know ∙ is.number ∙ sym number;
      high = high ∙ is.high ∙ ap (λ (n : ℕ). nat_lt n h.geometry.high) (sym number);
      registers = registers ∙ is.registers ∙ ap (λ (k : PassView). k.registers) (sym know);
      begun = ap (λ (k : PassView). k.begun) know ∙ is.begun ∙ sym begun;
    }

-- one that looked after a note
pub pass_looked : (h : Heap) (p q : Pass) → IsPassOf h p → q.seat.table_id ≡ p.seat.table_id → q.seat.me.1 ≡ p.seat.me.1 → q.number ≡ p.number → q.high ≡ p.high
    → q.registers.items ≡ p.registers.items → q.begun ≡ p.begun → (v : PassView) → q.seat.me.0.knows ≡ pass h.geometry v → (told' : History) → Looks h.geometry (known p) told' v
    → IsPassOf h q × Looks h.geometry (known p) told' (known q)
pass_looked h p q is table me number high registers begun v now told' looks =
    let know : known q ≡ v = ap the_pass now in (
      record {
        table = table ∙ is.table;
        empty = me ∙ is.empty;
        is = now ∙ ap (pass h.geometry) (sym know);
        stands = subst (Stands h.geometry) (sym know) looks.stands;
        idle = ap (λ (k : PassView). k.flight.place) know ∙ ap (λ f. f.place) looks.flight ∙ is.idle;
        number = ap (λ (k : PassView). k.seat) know ∙ looks.seat ∙ is.number ∙ sym number;
        high = high ∙ is.high ∙ ap (λ (n : ℕ). nat_lt n h.geometry.high) (sym number);
        registers = registers ∙ is.registers ∙ sym looks.registers ∙ ap (λ (k : PassView). k.registers) (sym know);
        begun = ap (λ (k : PassView). k.begun) know ∙ looks.begun ∙ is.begun ∙ sym begun;
      },
      subst (Looks h.geometry (known p) told') (sym know) looks,
    )

-- what a look tells of a pass that was given a note
pub looked_from : (g : Geometry) (p : PassView) (told' : History) (k k' : Knows) → k ≡ told g p told' → LooksFrom k k' → (v : PassView) × (k' ≡ pass g v) × Looks g p told' v
looked_from g p told' k k' is l = subst (λ (x : Knows). LooksFrom x k') is l

pub looks_so : (g : Geometry) (p : PassView) (told' : History) (k k' : Knows) → k ≡ told g p told' → LooksFrom k k' → Looks g p told' (the_pass k')
looks_so g p told' k k' is l = let t = looked_from g p told' k k' is l in subst (Looks g p told') (sym (ap the_pass t.1)) t.2
