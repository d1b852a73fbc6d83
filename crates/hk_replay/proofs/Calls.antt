-- A call that is read is spelled by its words, and words that spell a call are read as it.
use Rattle.std.proofs.Common.{◌≡◌, ℕ, ◌+◌, ◌<◌, ◌≤◌, Bool, true, false, cond, List, [], ◌∷◌, Option, Some, None, refl, sym, ap, subst, arith}
use Rattle.std.specs.Prelude.{codes}
use Rattle.std.specs.List.{AllZip}
use Rattle.std.specs.Str.{bytes_eq}
use Rattle.std.proofs.lemmas.Slice.Eq.{bytes_eq-Decides}
use Rattle.hk_words.specs.declared.call.Call.{Call}
use Rattle.hk_words.specs.declared.call.Call.TheVariants as call
use Rattle.hk_words.specs.declared.shape.Shape.{Shape}
use Rattle.hk_words.specs.declared.geometry.TheConstants.{REGISTERS}
use Rattle.hk_words.specs.declared.shape.TheConstants.{USUAL_FIELDS}
use Rattle.hk_replay.specs.Shapes.{shape_of}
use Rattle.hk_io.specs.Number.{number_of}
use Rattle.hk_replay.specs.Reading.{◌>>=◌, register_of, target_of, field_of, size_of, call_of_two, call_of_three, new_of, call_of_four}
use Rattle.hk_replay.specs.Spelling.{Piece, Exactly, Numeral, SpellsPiece, call_pieces, IsCall}
use Rattle.hk_replay.proofs.Arguments.{some_is, bind_some, number_takes, number_again, below_takes, below_again, target_takes, target_again}
use Rattle.hk_replay.proofs.Shapes.{shape_of_own, shape_numbers}

-- a choice by a name
pub choose : {A : Type 0} (name key : List ℕ) (x y : Option A) (z : A) (P : Type 0) → cond (bytes_eq name key) x y ≡ Some z → (name ≡ key → x ≡ Some z → P) → (y ≡ Some z → P) → P
choose {A} name key x y z P e hit miss = by_test (bytes_eq name key) refl e where
  by_test : (b : Bool) → bytes_eq name key ≡ b → cond b x y ≡ Some z → P
  by_test true is f = hit ((bytes_eq-Decides name key).0 is) f
  by_test false is f = miss f

abbrev nothing : {A : Type 0} → Option A
nothing = None

pub no_more : {A : Type 0} (s : A) (P : Type 0) → nothing ≡ Some s → P
no_more s P e = absurd cc

-- what is made of one, two or three arguments
pub one : {A R : Type 0} (r : Option A) (make : A → R) (s : R) (P : R → Type 0) → (r >>= λ x. Some (make x)) ≡ Some s → ((x : A) → r ≡ Some x → P (make x)) → P s
one r make s P e h = let p = bind_some r (λ x. Some (make x)) s e in subst P (some_is (make p.0) s p.2) (h p.0 p.1)

pub two : {A B R : Type 0} (r : Option A) (q : Option B) (make : A → B → R) (s : R) (P : R → Type 0) → (r >>= λ x. q >>= λ y. Some (make x y)) ≡ Some s → ((x : A) (y : B) → r ≡ Some x → q ≡ Some y → P (make x y)) → P s
two r q make s P e h = let p = bind_some r (λ x. q >>= λ y. Some (make x y)) s e in one q (make p.0) s P p.2 (λ y f. h p.0 y p.1 f)

pub three : {A B C R : Type 0} (r : Option A) (q : Option B) (o : Option C) (make : A → B → C → R) (s : R) (P : R → Type 0) → (r >>= λ x. q >>= λ y. o >>= λ z. Some (make x y z)) ≡ Some s → ((x : A) (y : B) (z : C) → r ≡ Some x → q ≡ Some y → o ≡ Some z → P (make x y z)) → P s
three r q o make s P e h = let p = bind_some r (λ x. q >>= λ y. o >>= λ z. Some (make x y z)) s e in two q o (make p.0) s P p.2 (λ y z f g. h p.0 y z p.1 f g)

-- ---- what is read is spelled so

-- words spell a call whose numbers are in their ranges
abbrev pub Calls : List (List ℕ) → Call → Type 0
Calls ws c = AllZip SpellsPiece ws (call_pieces c) × IsCall c

pub call_of_two_takes : (name a : List ℕ) (c : Call) → call_of_two name a ≡ Some c → Calls (name ∷ a ∷ []) c
unfolding call_of_two
call_of_two_takes name a c e =
    let P : Call → Type 0 = λ c. Calls (name ∷ a ∷ []) c in
    choose name (codes "clear") _ _ c (P c) e (λ n f. one (target_of a) call.Clear c P f (λ x p. let t0 = target_takes a x p in ((n, (t0.0, tt)), t0.1))) (λ e.
    no_more c (P c) e)

pub call_of_three_takes : (name a b : List ℕ) (c : Call) → call_of_three name a b ≡ Some c → Calls (name ∷ a ∷ b ∷ []) c
unfolding call_of_three
call_of_three_takes name a b c e =
    let P : Call → Type 0 = λ c. Calls (name ∷ a ∷ b ∷ []) c in
    choose name (codes "get") _ _ c (P c) e (λ n f. two (register_of a) (field_of b) call.Get c P f (λ x y p q. let t0 = below_takes REGISTERS a x p in let t1 = below_takes USUAL_FIELDS b y q in ((n, (t0.0, (t1.0, tt))), (t0.1, t1.1)))) (λ e.
    choose name (codes "move") _ _ c (P c) e (λ n f. two (target_of a) (register_of b) call.Move c P f (λ x y p q. let t0 = target_takes a x p in let t1 = below_takes REGISTERS b y q in ((n, (t0.0, (t1.0, tt))), (t0.1, t1.1)))) (λ e.
    no_more c (P c) e))

new_takes : (name a b d : List ℕ) (c : Call) → name ≡ codes "new" → new_of a b d ≡ Some c → Calls (name ∷ a ∷ b ∷ d ∷ []) c
unfolding new_of
new_takes name a b d c n e =
    let P : Call → Type 0 = λ c. Calls (name ∷ a ∷ b ∷ d ∷ []) c in
    let k = bind_some (target_of a) (λ dest. size_of b >>= λ refs. size_of d >>= λ nums. shape_of refs nums >>= λ shape. Some (call.New dest shape)) c e in
    let f = bind_some (size_of b) (λ refs. size_of d >>= λ nums. shape_of refs nums >>= λ shape. Some (call.New k.0 shape)) c k.2 in
    let g = bind_some (size_of d) (λ nums. shape_of f.0 nums >>= λ shape. Some (call.New k.0 shape)) c f.2 in
    let h = bind_some (shape_of f.0 g.0) (λ shape. Some (call.New k.0 shape)) c g.2 in
    let t0 = target_takes a k.0 k.1 in
    let t1 = below_takes 256 b f.0 f.1 in
    let t2 = below_takes 256 d g.0 g.1 in
    let numbers = shape_numbers f.0 g.0 h.0 h.1 in
    let few : h.0.refs + h.0.nums ≤ USUAL_FIELDS = rw (numbers.refs_are, numbers.nums_are) numbers.few in
    subst P (some_is (call.New k.0 h.0) c h.2)
    ((n, (t0.0, (subst (λ (m : ℕ). SpellsPiece b (Numeral m)) (sym numbers.refs_are) t1.0, (subst (λ (m : ℕ). SpellsPiece d (Numeral m)) (sym numbers.nums_are) t2.0, tt)))), (t0.1, few))

pub call_of_four_takes : (name a b d : List ℕ) (c : Call) → call_of_four name a b d ≡ Some c → Calls (name ∷ a ∷ b ∷ d ∷ []) c
unfolding call_of_four
call_of_four_takes name a b d c e =
    let P : Call → Type 0 = λ c. Calls (name ∷ a ∷ b ∷ d ∷ []) c in
    choose name (codes "put") _ _ c (P c) e (λ n f. three (register_of a) (field_of b) (number_of d) call.Put c P f (λ x y z p q r. let t0 = below_takes REGISTERS a x p in let t1 = below_takes USUAL_FIELDS b y q in let t2 = number_takes d z r in ((n, (t0.0, (t1.0, (t2.0, tt)))), (t0.1, t1.1, t2.1)))) (λ e.
    choose name (codes "load") _ _ c (P c) e (λ n f. three (target_of a) (register_of b) (field_of d) call.Load c P f (λ x y z p q r. let t0 = target_takes a x p in let t1 = below_takes REGISTERS b y q in let t2 = below_takes USUAL_FIELDS d z r in ((n, (t0.0, (t1.0, (t2.0, tt)))), (t0.1, t1.1, t2.1)))) (λ e.
    choose name (codes "store") _ _ c (P c) e (λ n f. three (register_of a) (field_of b) (register_of d) call.Store c P f (λ x y z p q r. let t0 = below_takes REGISTERS a x p in let t1 = below_takes USUAL_FIELDS b y q in let t2 = below_takes REGISTERS d z r in ((n, (t0.0, (t1.0, (t2.0, tt)))), (t0.1, t1.1, t2.1)))) (λ e.
    choose name (codes "new") _ _ c (P c) e (λ n f. new_takes name a b d c n f) (λ e.
    no_more c (P c) e))))

-- ---- what spells a call is read as it

-- words are read as a call, by their number
pub data Found (ws : List (List ℕ)) (c : Call) : Type 0 where
  of_two : (name a : List ℕ) → ws ≡ name ∷ a ∷ [] → call_of_two name a ≡ Some c → Found ws c
  of_three : (name a b : List ℕ) → ws ≡ name ∷ a ∷ b ∷ [] → call_of_three name a b ≡ Some c → Found ws c
  of_four : (name a b d : List ℕ) → ws ≡ name ∷ a ∷ b ∷ d ∷ [] → call_of_four name a b d ≡ Some c → Found ws c

pub zip2 : (ws : List (List ℕ)) (p q : Piece) → AllZip SpellsPiece ws (p ∷ q ∷ []) → (a : List ℕ) × (b : List ℕ) × (ws ≡ a ∷ b ∷ []) × SpellsPiece a p × SpellsPiece b q
zip2 [] p q h = absurd h
zip2 (a ∷ []) p q h = absurd h.1
zip2 (a ∷ b ∷ []) p q h = (a, b, refl, h.0, h.1.0)
zip2 (a ∷ b ∷ c ∷ more) p q h = absurd h.1.1

pub zip3 : (ws : List (List ℕ)) (p q r : Piece) → AllZip SpellsPiece ws (p ∷ q ∷ r ∷ []) → (a : List ℕ) × (b : List ℕ) × (c : List ℕ) × (ws ≡ a ∷ b ∷ c ∷ []) × SpellsPiece a p × SpellsPiece b q × SpellsPiece c r
zip3 [] p q r h = absurd h
zip3 (a ∷ ws) p q r h = let z = zip2 ws q r h.1 in (a, z.0, z.1, ap (λ (t : List (List ℕ)). a ∷ t) z.2, h.0, z.3, z.4)

pub zip4 : (ws : List (List ℕ)) (p q r s : Piece) → AllZip SpellsPiece ws (p ∷ q ∷ r ∷ s ∷ []) → (a : List ℕ) × (b : List ℕ) × (c : List ℕ) × (d : List ℕ) × (ws ≡ a ∷ b ∷ c ∷ d ∷ []) × SpellsPiece a p × SpellsPiece b q × SpellsPiece c r × SpellsPiece d s
zip4 [] p q r s h = absurd h
zip4 (a ∷ ws) p q r s h = let z = zip3 ws q r s h.1 in (a, z.0, z.1, z.2, ap (λ (t : List (List ℕ)). a ∷ t) z.3, h.0, z.4, z.5, z.6)

register_again : (w : List ℕ) (v : ℕ) → SpellsPiece w (Numeral v) → v < REGISTERS → register_of w ≡ Some v
register_again w v h lt = below_again REGISTERS w v h lt (omega arith)

field_again : (w : List ℕ) (v : ℕ) → SpellsPiece w (Numeral v) → v < USUAL_FIELDS → field_of w ≡ Some v
field_again w v h lt = below_again USUAL_FIELDS w v h lt (omega arith)

clear_again : (a : List ℕ) (dest : ℕ) → target_of a ≡ Some dest → call_of_two (codes "clear") a ≡ Some (call.Clear dest)
unfolding call_of_two
clear_again a dest e = rw e refl

get_again : (a b : List ℕ) (reg field : ℕ) → register_of a ≡ Some reg → field_of b ≡ Some field → call_of_three (codes "get") a b ≡ Some (call.Get reg field)
unfolding call_of_three
get_again a b reg field e f = rw (e, f) refl

move_again : (a b : List ℕ) (dest from : ℕ) → target_of a ≡ Some dest → register_of b ≡ Some from → call_of_three (codes "move") a b ≡ Some (call.Move dest from)
unfolding call_of_three
move_again a b dest from e f = rw (e, f) refl

put_again : (a b d : List ℕ) (reg field value : ℕ) → register_of a ≡ Some reg → field_of b ≡ Some field → number_of d ≡ Some value → call_of_four (codes "put") a b d ≡ Some (call.Put reg field value)
unfolding call_of_four
put_again a b d reg field value e f g = rw (e, f, g) refl

load_again : (a b d : List ℕ) (dest reg field : ℕ) → target_of a ≡ Some dest → register_of b ≡ Some reg → field_of d ≡ Some field → call_of_four (codes "load") a b d ≡ Some (call.Load dest reg field)
unfolding call_of_four
load_again a b d dest reg field e f g = rw (e, f, g) refl

store_again : (a b d : List ℕ) (reg field from : ℕ) → register_of a ≡ Some reg → field_of b ≡ Some field → register_of d ≡ Some from → call_of_four (codes "store") a b d ≡ Some (call.Store reg field from)
unfolding call_of_four
store_again a b d reg field from e f g = cc

new_again : (a b d : List ℕ) (dest : ℕ) (shape : Shape) → target_of a ≡ Some dest → size_of b ≡ Some shape.refs → size_of d ≡ Some shape.nums → shape.refs + shape.nums ≤ USUAL_FIELDS → call_of_four (codes "new") a b d ≡ Some (call.New dest shape)
unfolding call_of_four new_of
new_again a b d dest shape e f g few = rw (e, f, g, shape_of_own shape few) refl

-- a name is the key
pub by_name : {A : Type 0} (name key : List ℕ) (f : List ℕ → Option A) (x : A) → name ≡ key → f key ≡ Some x → f name ≡ Some x
by_name name key f x e h = rw e h

pub call_again : (ws : List (List ℕ)) (c : Call) → AllZip SpellsPiece ws (call_pieces c) → IsCall c → Found ws c
call_again ws (call.Get reg field) h i =
    let z = zip3 ws (Exactly (codes "get")) (Numeral reg) (Numeral field) h in
    of_three z.0 z.1 z.2 z.3 (by_name z.0 (codes "get") (λ n. call_of_three n z.1 z.2) _ z.4 (get_again z.1 z.2 reg field (register_again z.1 reg z.5 i.0) (field_again z.2 field z.6 i.1)))
call_again ws (call.Put reg field value) h i =
    let z = zip4 ws (Exactly (codes "put")) (Numeral reg) (Numeral field) (Numeral value) h in
    of_four z.0 z.1 z.2 z.3 z.4 (by_name z.0 (codes "put") (λ n. call_of_four n z.1 z.2 z.3) _ z.5 (put_again z.1 z.2 z.3 reg field value (register_again z.1 reg z.6 i.0) (field_again z.2 field z.7 i.1) (number_again z.3 value z.8 i.2)))
call_again ws (call.Load dest reg field) h i =
    let z = zip4 ws (Exactly (codes "load")) (Numeral dest) (Numeral reg) (Numeral field) h in
    of_four z.0 z.1 z.2 z.3 z.4 (by_name z.0 (codes "load") (λ n. call_of_four n z.1 z.2 z.3) _ z.5 (load_again z.1 z.2 z.3 dest reg field (target_again z.1 dest z.6 i.0) (register_again z.2 reg z.7 i.1) (field_again z.3 field z.8 i.2)))
call_again ws (call.Store reg field from) h i =
    let z = zip4 ws (Exactly (codes "store")) (Numeral reg) (Numeral field) (Numeral from) h in
    of_four z.0 z.1 z.2 z.3 z.4 (by_name z.0 (codes "store") (λ n. call_of_four n z.1 z.2 z.3) _ z.5 (store_again z.1 z.2 z.3 reg field from (register_again z.1 reg z.6 i.0) (field_again z.2 field z.7 i.1) (register_again z.3 from z.8 i.2)))
call_again ws (call.Move dest from) h i =
    let z = zip3 ws (Exactly (codes "move")) (Numeral dest) (Numeral from) h in
    of_three z.0 z.1 z.2 z.3 (by_name z.0 (codes "move") (λ n. call_of_three n z.1 z.2) _ z.4 (move_again z.1 z.2 dest from (target_again z.1 dest z.5 i.0) (register_again z.2 from z.6 i.1)))
call_again ws (call.Clear dest) h i =
    let z = zip2 ws (Exactly (codes "clear")) (Numeral dest) h in
    of_two z.0 z.1 z.2 (by_name z.0 (codes "clear") (λ n. call_of_two n z.1) _ z.3 (clear_again z.1 dest (target_again z.1 dest z.4 i)))
call_again ws (call.New dest shape) h i =
    let z = zip4 ws (Exactly (codes "new")) (Numeral dest) (Numeral shape.refs) (Numeral shape.nums) h in
    let few = i.1 in
    of_four z.0 z.1 z.2 z.3 z.4 (by_name z.0 (codes "new") (λ n. call_of_four n z.1 z.2 z.3) _ z.5 (new_again z.1 z.2 z.3 dest shape (target_again z.1 dest z.6 i.0) (below_again 256 z.2 shape.refs z.7 (omega arith) (omega arith)) (below_again 256 z.3 shape.nums z.8 (omega arith) (omega arith)) few))
call_again ws (call.Same a b) h i = absurd i
call_again ws (call.IsNull reg) h i = absurd i
