-- The test of a call's registers says that they fit.
use Rattle.std.proofs.Common.{◌≡◌, ℕ, ◌<◌, true}
use Rattle.std.proofs.lemmas.Bool.{ltb-true, lt-ltb, and_parts, and_from}
use Rattle.std.specs.Prelude.{◌↔◌, nat_lt, ◌&&◌}
use Rattle.hk_words.specs.declared.call.Call.{Call}
use Rattle.hk_words.specs.declared.call.Call.TheVariants as call
use Rattle.hk_words.specs.Calls.{RegistersFit}
use Rattle.hk_core.specs.Run.{registers_fit}

-- two tests that two numbers are below bounds
both_below : (a b m n : ℕ) → ((nat_lt a b && nat_lt m n) ≡ true) ↔ ((a < b) × (m < n))
both_below a b m n = (
  (λ e. let p = and_parts (nat_lt a b) (nat_lt m n) e in (ltb-true a b p.0, ltb-true m n p.1)),
  (λ h. and_from (nat_lt a b) (nat_lt m n) (lt-ltb a b h.0) (lt-ltb m n h.1)),
)

pub registers_tested : (n : ℕ) (call' : Call) → (registers_fit n call' ≡ true) ↔ RegistersFit n call'
registers_tested n (call.Get reg field) = (ltb-true reg n, lt-ltb reg n)
registers_tested n (call.Put reg field value) = (ltb-true reg n, lt-ltb reg n)
registers_tested n (call.Load dest reg field) = (
  (λ e. let p = and_parts (nat_lt 0 dest && nat_lt dest n) (nat_lt reg n) e in ((both_below 0 dest dest n).0 p.0, ltb-true reg n p.1)),
  (λ h. and_from (nat_lt 0 dest && nat_lt dest n) (nat_lt reg n) ((both_below 0 dest dest n).1 h.0) (lt-ltb reg n h.1)),
)
registers_tested n (call.Store reg field from) = both_below reg n from n
registers_tested n (call.Move dest from) = (
  (λ e. let p = and_parts (nat_lt 0 dest && nat_lt dest n) (nat_lt from n) e in ((both_below 0 dest dest n).0 p.0, ltb-true from n p.1)),
  (λ h. and_from (nat_lt 0 dest && nat_lt dest n) (nat_lt from n) ((both_below 0 dest dest n).1 h.0) (lt-ltb from n h.1)),
)
registers_tested n (call.Clear dest) = both_below 0 dest dest n
registers_tested n (call.New dest shape) = both_below 0 dest dest n
registers_tested n (call.Same a b) = both_below a n b n
registers_tested n (call.IsNull reg) = (ltb-true reg n, lt-ltb reg n)
