-- A statement that is read is spelled by its words, and what spells a statement is read as it.
use Rattle.std.proofs.Common.{◌≡◌, ℕ, ◌-◌, ◌^◌, ◌<◌, ◌≤◌, Bool, true, false, cond, List, [], ◌∷◌, Result, Ok, Err, refl, sym, ap, subst, arith, lit<}
use Rattle.std.specs.Prelude.{◌&&◌, codes}
use Rattle.std.specs.List.{AllZip}
use Rattle.std.specs.Option.{ok_or}
use Rattle.std.specs.Fmt.{decimal}
use Rattle.std.specs.Str.{bytes_eq}
use Rattle.std.proofs.lemmas.Slice.Eq.{bytes_eq-Decides}
use Rattle.hk_words.specs.declared.shape.Shape.{Shape}
use Rattle.hk_script.specs.declared.limits.Limits.{Limits}
use Rattle.hk_script.specs.declared.statement.Statement.{Statement}
use Rattle.hk_script.specs.declared.statement.Statement.TheVariants as statement
use Rattle.hk_script.specs.declared.statement.Test.{Test}
use Rattle.hk_script.specs.declared.statement.Test.TheVariants as test
use Rattle.hk_script.specs.declared.error.Fault.{Fault}
use Rattle.hk_script.specs.declared.error.Fault.TheVariants as fault
use Rattle.hk_script.specs.Limits.{AreLimits}
use Rattle.hk_script.specs.Shapes.{shape_of}
use Rattle.hk_script.specs.Reading.{◌>>=◌, count_of, value_of, field_of, size_of, variable_of, register_of, target_of, one_word, two_words, three_words, new_of, test_of, four_words, statement_of}
use Rattle.hk_script.specs.Spelling.{Piece, Exactly, Numeral, SpellsPiece, SpellsStatement, variable, register, IsCount, IsTest, IsStatement}
use Rattle.hk_script.proofs.Arguments.{ok_is, bind_ok, variable_takes, variable_again, register_takes, register_again, target_takes, target_again, field_takes, field_again, number_in_takes, number_in_again}
use Rattle.hk_script.proofs.Digits.{and_parts}
use Rattle.hk_script.proofs.Shapes.{shape_of_own, shape_numbers}

-- words spell a statement whose arguments are in range
abbrev pub Reads : Limits → List (List ℕ) → Statement → Type 0
Reads limits ws s = SpellsStatement ws s × IsStatement limits s

-- a choice by a name
choose : {A : Type 0} (name key : List ℕ) (x y : Result A Fault) (z : A) (P : Type 0) → cond (bytes_eq name key) x y ≡ Ok z → (name ≡ key → x ≡ Ok z → P) → (y ≡ Ok z → P) → P
choose {A} name key x y z P e hit miss = by_test (bytes_eq name key) refl e where
  by_test : (b : Bool) → bytes_eq name key ≡ b → cond b x y ≡ Ok z → P
  by_test true is f = hit ((bytes_eq-Decides name key).0 is) f
  by_test false is f = miss f

abbrev nothing : Result Statement Fault
nothing = Err fault.Word

no_word : (s : Statement) (P : Type 0) → nothing ≡ Ok s → P
no_word s P e = absurd cc

-- a statement of one, two or three arguments
one : {A : Type 0} (r : Result A Fault) (make : A → Statement) (s : Statement) (P : Statement → Type 0) → (r >>= λ x. Ok (make x)) ≡ Ok s → ((x : A) → r ≡ Ok x → P (make x)) → P s
one r make s P e h = let p = bind_ok r (λ x. Ok (make x)) s e in subst P (ok_is (make p.0) s p.2) (h p.0 p.1)

two : {A B : Type 0} (r : Result A Fault) (q : Result B Fault) (make : A → B → Statement) (s : Statement) (P : Statement → Type 0) → (r >>= λ x. q >>= λ y. Ok (make x y)) ≡ Ok s → ((x : A) (y : B) → r ≡ Ok x → q ≡ Ok y → P (make x y)) → P s
two r q make s P e h = let p = bind_ok r (λ x. q >>= λ y. Ok (make x y)) s e in one q (make p.0) s P p.2 (λ y f. h p.0 y p.1 f)

three : {A B C : Type 0} (r : Result A Fault) (q : Result B Fault) (o : Result C Fault) (make : A → B → C → Statement) (s : Statement) (P : Statement → Type 0) → (r >>= λ x. q >>= λ y. o >>= λ z. Ok (make x y z)) ≡ Ok s → ((x : A) (y : B) (z : C) → r ≡ Ok x → q ≡ Ok y → o ≡ Ok z → P (make x y z)) → P s
three r q o make s P e h = let p = bind_ok r (λ x. q >>= λ y. o >>= λ z. Ok (make x y z)) s e in two q o (make p.0) s P p.2 (λ y z f g. h p.0 y z p.1 f g)

-- ---- what is read is spelled so

count_takes : (w : List ℕ) (n : ℕ) → count_of w ≡ Ok n → SpellsPiece w (Numeral n) × IsCount n
count_takes w n e = let p = number_in_takes 1 65535 w n e in (p.0, (p.1, p.2))

value_takes : (w : List ℕ) (n : ℕ) → value_of w ≡ Ok n → SpellsPiece w (Numeral n) × (n < 2 ^ 64)
value_takes w n e = let p = number_in_takes 0 (2 ^ 64 - 1) w n e in (p.0, omega (arith, p.2))

module _ (limits : Limits) where
  one_word_takes : (name : List ℕ) (s : Statement) → one_word name ≡ Ok s → Reads limits (name ∷ []) s
  unfolding one_word
  one_word_takes name s e =
      let P : Statement → Type 0 = λ s. Reads limits (name ∷ []) s in
      choose name (codes "else") _ _ s (P s) e (λ n f. subst P (ok_is statement.Else s f) ((n, tt), tt)) (λ e.
      choose name (codes "end") _ _ s (P s) e (λ n f. subst P (ok_is statement.End s f) ((n, tt), tt)) (λ e.
      no_word s (P s) e))

  two_words_takes : (name a : List ℕ) (s : Statement) → two_words limits name a ≡ Ok s → Reads limits (name ∷ a ∷ []) s
  unfolding two_words
  two_words_takes name a s e =
      let P : Statement → Type 0 = λ s. Reads limits (name ∷ a ∷ []) s in
      choose name (codes "work") _ _ s (P s) e (λ n f. one (count_of a) statement.Work s P f (λ x p. let t0 = count_takes a x p in ((n, (t0.0, tt)), t0.1))) (λ e.
      choose name (codes "job") _ _ s (P s) e (λ n f. one (variable_of a) statement.Job s P f (λ x p. let t0 = variable_takes a x p in ((n, (t0.0, tt)), t0.1))) (λ e.
      choose name (codes "out") _ _ s (P s) e (λ n f. one (variable_of a) statement.Out s P f (λ x p. let t0 = variable_takes a x p in ((n, (t0.0, tt)), t0.1))) (λ e.
      choose name (codes "clear") _ _ s (P s) e (λ n f. one (target_of limits a) statement.Clear s P f (λ x p. let t0 = target_takes limits a x p in ((n, (t0.0, tt)), t0.1))) (λ e.
      choose name (codes "repeat") _ _ s (P s) e (λ n f. one (count_of a) statement.Repeat s P f (λ x p. let t0 = count_takes a x p in ((n, (t0.0, tt)), t0.1))) (λ e.
      no_word s (P s) e)))))

  null_takes : (name a b : List ℕ) (s : Statement) → cond (bytes_eq name (codes "if") && bytes_eq a (codes "null")) (register_of limits b >>= λ reg. Ok (statement.If (test.Null reg))) (Err fault.Word) ≡ Ok s → Reads limits (name ∷ a ∷ b ∷ []) s
  null_takes name a b s e = by_test (bytes_eq name (codes "if") && bytes_eq a (codes "null")) refl e where
    by_test : (t : Bool) → (bytes_eq name (codes "if") && bytes_eq a (codes "null")) ≡ t → cond t (register_of limits b >>= λ reg. Ok (statement.If (test.Null reg))) (Err fault.Word) ≡ Ok s → Reads limits (name ∷ a ∷ b ∷ []) s
    by_test true is f =
        let both = and_parts (bytes_eq name (codes "if")) (bytes_eq a (codes "null")) is in
        one (register_of limits b) (λ reg. statement.If (test.Null reg)) s (λ s. Reads limits (name ∷ a ∷ b ∷ []) s) f (λ x p. let t0 = register_takes limits b x p in (((bytes_eq-Decides name (codes "if")).0 both.0, ((bytes_eq-Decides a (codes "null")).0 both.1, (t0.0, tt))), t0.1))
    by_test false is f = absurd cc

  three_words_takes : (name a b : List ℕ) (s : Statement) → three_words limits name a b ≡ Ok s → Reads limits (name ∷ a ∷ b ∷ []) s
  unfolding three_words
  three_words_takes name a b s e =
      let P : Statement → Type 0 = λ s. Reads limits (name ∷ a ∷ b ∷ []) s in
      choose name (codes "set") _ _ s (P s) e (λ n f. two (variable_of a) (value_of b) statement.Set s P f (λ x y p q. let t0 = variable_takes a x p in let t1 = value_takes b y q in ((n, (t0.0, (t1.0, tt))), (t0.1, t1.1)))) (λ e.
      choose name (codes "copy") _ _ s (P s) e (λ n f. two (variable_of a) (variable_of b) statement.Copy s P f (λ x y p q. let t0 = variable_takes a x p in let t1 = variable_takes b y q in ((n, (t0.0, (t1.0, tt))), (t0.1, t1.1)))) (λ e.
      choose name (codes "add") _ _ s (P s) e (λ n f. two (variable_of a) (variable_of b) statement.Add s P f (λ x y p q. let t0 = variable_takes a x p in let t1 = variable_takes b y q in ((n, (t0.0, (t1.0, tt))), (t0.1, t1.1)))) (λ e.
      choose name (codes "sub") _ _ s (P s) e (λ n f. two (variable_of a) (variable_of b) statement.Sub s P f (λ x y p q. let t0 = variable_takes a x p in let t1 = variable_takes b y q in ((n, (t0.0, (t1.0, tt))), (t0.1, t1.1)))) (λ e.
      choose name (codes "move") _ _ s (P s) e (λ n f. two (target_of limits a) (register_of limits b) statement.Move s P f (λ x y p q. let t0 = target_takes limits a x p in let t1 = register_takes limits b y q in ((n, (t0.0, (t1.0, tt))), (t0.1, t1.1)))) (λ e.
      null_takes name a b s e)))))

  new_takes : (name a b c : List ℕ) (s : Statement) → name ≡ codes "new" → new_of limits a b c ≡ Ok s → Reads limits (name ∷ a ∷ b ∷ c ∷ []) s
  unfolding new_of
  new_takes name a b c s n e =
      let P : Statement → Type 0 = λ s. Reads limits (name ∷ a ∷ b ∷ c ∷ []) s in
      let d = bind_ok (target_of limits a) (λ dest. size_of b >>= λ refs. size_of c >>= λ nums. ok_or (shape_of limits.fields refs nums) fault.Shape >>= λ shape. Ok (statement.New dest shape)) s e in
      let f = bind_ok (size_of b) (λ refs. size_of c >>= λ nums. ok_or (shape_of limits.fields refs nums) fault.Shape >>= λ shape. Ok (statement.New d.0 shape)) s d.2 in
      let g = bind_ok (size_of c) (λ nums. ok_or (shape_of limits.fields f.0 nums) fault.Shape >>= λ shape. Ok (statement.New d.0 shape)) s f.2 in
      let h = bind_ok (ok_or (shape_of limits.fields f.0 g.0) fault.Shape) (λ shape. Ok (statement.New d.0 shape)) s g.2 in
      let t0 = target_takes limits a d.0 d.1 in
      let t1 = number_in_takes 0 255 b f.0 f.1 in
      let t2 = number_in_takes 0 255 c g.0 g.1 in
      let numbers = shape_numbers limits.fields f.0 g.0 h.0 h.1 in
      subst P (ok_is (statement.New d.0 h.0) s h.2)
      ((n, (t0.0, (subst (λ (m : ℕ). SpellsPiece b (Numeral m)) (sym numbers.0) t1.0, (subst (λ (m : ℕ). SpellsPiece c (Numeral m)) (sym numbers.1) t2.0, tt)))), (t0.1, omega (arith, numbers.0, numbers.1, numbers.2)))

  test_takes : (name a b c : List ℕ) (s : Statement) → name ≡ codes "if" → test_of limits a b c ≡ Ok s → Reads limits (name ∷ a ∷ b ∷ c ∷ []) s
  unfolding test_of
  test_takes name a b c s n e =
      let P : Statement → Type 0 = λ s. Reads limits (name ∷ a ∷ b ∷ c ∷ []) s in
      choose b (codes "<") _ _ s (P s) e (λ k f. two (variable_of a) (variable_of c) (λ left right. statement.If (test.Less left right)) s P f (λ x y p q. let t0 = variable_takes a x p in let t1 = variable_takes c y q in ((n, (t0.0, (k, (t1.0, tt)))), (t0.1, t1.1)))) (λ e.
      choose b (codes "=") _ _ s (P s) e (λ k f. two (variable_of a) (variable_of c) (λ left right. statement.If (test.Equal left right)) s P f (λ x y p q. let t0 = variable_takes a x p in let t1 = variable_takes c y q in ((n, (t0.0, (k, (t1.0, tt)))), (t0.1, t1.1)))) (λ e.
      choose a (codes "same") _ _ s (P s) e (λ k f. two (register_of limits b) (register_of limits c) (λ left right. statement.If (test.Same left right)) s P f (λ x y p q. let t0 = register_takes limits b x p in let t1 = register_takes limits c y q in ((n, (k, (t0.0, (t1.0, tt)))), (t0.1, t1.1)))) (λ e.
      no_word s (P s) e)))

  four_words_takes : (name a b c : List ℕ) (s : Statement) → four_words limits name a b c ≡ Ok s → Reads limits (name ∷ a ∷ b ∷ c ∷ []) s
  unfolding four_words
  four_words_takes name a b c s e =
      let P : Statement → Type 0 = λ s. Reads limits (name ∷ a ∷ b ∷ c ∷ []) s in
      choose name (codes "get") _ _ s (P s) e (λ n f. three (variable_of a) (register_of limits b) (field_of limits c) statement.Get s P f (λ x y z p q r. let t0 = variable_takes a x p in let t1 = register_takes limits b y q in let t2 = field_takes limits c z r in ((n, (t0.0, (t1.0, (t2.0, tt)))), (t0.1, t1.1, t2.1)))) (λ e.
      choose name (codes "put") _ _ s (P s) e (λ n f. three (register_of limits a) (field_of limits b) (variable_of c) statement.Put s P f (λ x y z p q r. let t0 = register_takes limits a x p in let t1 = field_takes limits b y q in let t2 = variable_takes c z r in ((n, (t0.0, (t1.0, (t2.0, tt)))), (t0.1, t1.1, t2.1)))) (λ e.
      choose name (codes "load") _ _ s (P s) e (λ n f. three (target_of limits a) (register_of limits b) (field_of limits c) statement.Load s P f (λ x y z p q r. let t0 = target_takes limits a x p in let t1 = register_takes limits b y q in let t2 = field_takes limits c z r in ((n, (t0.0, (t1.0, (t2.0, tt)))), (t0.1, t1.1, t2.1)))) (λ e.
      choose name (codes "store") _ _ s (P s) e (λ n f. three (register_of limits a) (field_of limits b) (register_of limits c) statement.Store s P f (λ x y z p q r. let t0 = register_takes limits a x p in let t1 = field_takes limits b y q in let t2 = register_takes limits c z r in ((n, (t0.0, (t1.0, (t2.0, tt)))), (t0.1, t1.1, t2.1)))) (λ e.
      choose name (codes "new") _ _ s (P s) e (λ n f. new_takes name a b c s n f) (λ e.
      choose name (codes "if") _ _ s (P s) e (λ n f. test_takes name a b c s n f) (λ e.
      no_word s (P s) e))))))

  -- what is read is spelled so, and its arguments are in range
  pub statement_takes : (ws : List (List ℕ)) (s : Statement) → statement_of limits ws ≡ Ok s → Reads limits ws s
  unfolding statement_of
  statement_takes [] s e = absurd cc
  statement_takes (name ∷ []) s e = one_word_takes name s e
  statement_takes (name ∷ a ∷ []) s e = two_words_takes name a s e
  statement_takes (name ∷ a ∷ b ∷ []) s e = three_words_takes name a b s e
  statement_takes (name ∷ a ∷ b ∷ c ∷ []) s e = four_words_takes name a b c s e
  statement_takes (name ∷ a ∷ b ∷ c ∷ d ∷ more) s e = absurd cc

-- ---- what spells a statement is read as it

count_again : (w : List ℕ) (n : ℕ) → SpellsPiece w (Numeral n) → IsCount n → count_of w ≡ Ok n
count_again w n h i = number_in_again 1 65535 w n h i.0 i.1 (lit< tt)

value_again : (w : List ℕ) (n : ℕ) → SpellsPiece w (Numeral n) → n < 2 ^ 64 → value_of w ≡ Ok n
value_again w n h i = number_in_again 0 (2 ^ 64 - 1) w n h (omega arith) (omega arith) (omega arith)

size_again : (w : List ℕ) (n : ℕ) → SpellsPiece w (Numeral n) → n ≤ 255 → size_of w ≡ Ok n
size_again w n h i = number_in_again 0 255 w n h (omega arith) i (omega arith)

-- words for one piece to four
abbrev Same : List (List ℕ) → List (List ℕ) → Type 0
Same a b = a ≡ b

zip1 : (ws : List (List ℕ)) (p : Piece) → AllZip SpellsPiece ws (p ∷ []) → (a : List ℕ) × (Same ws (a ∷ [])) × SpellsPiece a p
zip1 [] p h = absurd h
zip1 (a ∷ []) p h = (a, refl, h.0)
zip1 (a ∷ b ∷ ws) p h = absurd h.1

zip2 : (ws : List (List ℕ)) (p q : Piece) → AllZip SpellsPiece ws (p ∷ q ∷ []) → (a b : List ℕ) × (Same ws (a ∷ b ∷ [])) × SpellsPiece a p × SpellsPiece b q
zip2 [] p q h = absurd h
zip2 (a ∷ ws) p q h = let r = zip1 ws q h.1 in (a, r.0, ap (λ (t : List (List ℕ)). a ∷ t) r.1, h.0, r.2)

zip3 : (ws : List (List ℕ)) (p q o : Piece) → AllZip SpellsPiece ws (p ∷ q ∷ o ∷ []) → (a b c : List ℕ) × (Same ws (a ∷ b ∷ c ∷ [])) × SpellsPiece a p × SpellsPiece b q × SpellsPiece c o
zip3 [] p q o h = absurd h
zip3 (a ∷ ws) p q o h = let r = zip2 ws q o h.1 in (a, r.0, r.1, ap (λ (t : List (List ℕ)). a ∷ t) r.2, h.0, r.3, r.4)

zip4 : (ws : List (List ℕ)) (p q o n : Piece) → AllZip SpellsPiece ws (p ∷ q ∷ o ∷ n ∷ []) → (a b c d : List ℕ) × (Same ws (a ∷ b ∷ c ∷ d ∷ [])) × SpellsPiece a p × SpellsPiece b q × SpellsPiece c o × SpellsPiece d n
zip4 [] p q o n h = absurd h
zip4 (a ∷ ws) p q o n h = let r = zip3 ws q o n h.1 in (a, r.0, r.1, r.2, ap (λ (t : List (List ℕ)). a ∷ t) r.3, h.0, r.4, r.5, r.6)

module _ (limits : Limits) (are : AreLimits limits) where
  again_Work : (ws : List (List ℕ)) (n : ℕ) → SpellsStatement ws (statement.Work n) → IsStatement limits (statement.Work n) → statement_of limits ws ≡ Ok (statement.Work n)
  unfolding statement_of two_words
  again_Work ws n h i = let z = zip2 ws (Exactly (codes "work")) (Numeral n) h in rw (z.2, z.3, count_again z.1 n z.4 i) refl

  again_Set : (ws : List (List ℕ)) (v n : ℕ) → SpellsStatement ws (statement.Set v n) → IsStatement limits (statement.Set v n) → statement_of limits ws ≡ Ok (statement.Set v n)
  unfolding statement_of three_words
  again_Set ws v n h i = let z = zip3 ws (Exactly (codes "set")) (variable v) (Numeral n) h in rw (z.3, z.4, variable_again z.1 v z.5 i.0, value_again z.2 n z.6 i.1) refl

  again_Copy : (ws : List (List ℕ)) (v u : ℕ) → SpellsStatement ws (statement.Copy v u) → IsStatement limits (statement.Copy v u) → statement_of limits ws ≡ Ok (statement.Copy v u)
  unfolding statement_of three_words
  again_Copy ws v u h i = let z = zip3 ws (Exactly (codes "copy")) (variable v) (variable u) h in rw (z.3, z.4, variable_again z.1 v z.5 i.0, variable_again z.2 u z.6 i.1) refl

  again_Add : (ws : List (List ℕ)) (v u : ℕ) → SpellsStatement ws (statement.Add v u) → IsStatement limits (statement.Add v u) → statement_of limits ws ≡ Ok (statement.Add v u)
  unfolding statement_of three_words
  again_Add ws v u h i = let z = zip3 ws (Exactly (codes "add")) (variable v) (variable u) h in rw (z.3, z.4, variable_again z.1 v z.5 i.0, variable_again z.2 u z.6 i.1) refl

  again_Sub : (ws : List (List ℕ)) (v u : ℕ) → SpellsStatement ws (statement.Sub v u) → IsStatement limits (statement.Sub v u) → statement_of limits ws ≡ Ok (statement.Sub v u)
  unfolding statement_of three_words
  again_Sub ws v u h i = let z = zip3 ws (Exactly (codes "sub")) (variable v) (variable u) h in rw (z.3, z.4, variable_again z.1 v z.5 i.0, variable_again z.2 u z.6 i.1) refl

  again_Job : (ws : List (List ℕ)) (v : ℕ) → SpellsStatement ws (statement.Job v) → IsStatement limits (statement.Job v) → statement_of limits ws ≡ Ok (statement.Job v)
  unfolding statement_of two_words
  again_Job ws v h i = let z = zip2 ws (Exactly (codes "job")) (variable v) h in rw (z.2, z.3, variable_again z.1 v z.4 i) refl

  again_Out : (ws : List (List ℕ)) (v : ℕ) → SpellsStatement ws (statement.Out v) → IsStatement limits (statement.Out v) → statement_of limits ws ≡ Ok (statement.Out v)
  unfolding statement_of two_words
  again_Out ws v h i = let z = zip2 ws (Exactly (codes "out")) (variable v) h in rw (z.2, z.3, variable_again z.1 v z.4 i) refl

  again_Get : (ws : List (List ℕ)) (v r f : ℕ) → SpellsStatement ws (statement.Get v r f) → IsStatement limits (statement.Get v r f) → statement_of limits ws ≡ Ok (statement.Get v r f)
  unfolding statement_of four_words
  again_Get ws v r f h i = let z = zip4 ws (Exactly (codes "get")) (variable v) (register r) (Numeral f) h in rw (z.4, z.5, variable_again z.1 v z.6 i.0, register_again limits are z.2 r z.7 i.1, field_again limits are z.3 f z.8 i.2) refl

  again_Put : (ws : List (List ℕ)) (r f v : ℕ) → SpellsStatement ws (statement.Put r f v) → IsStatement limits (statement.Put r f v) → statement_of limits ws ≡ Ok (statement.Put r f v)
  unfolding statement_of four_words
  again_Put ws r f v h i = let z = zip4 ws (Exactly (codes "put")) (register r) (Numeral f) (variable v) h in rw (z.4, z.5, register_again limits are z.1 r z.6 i.0, field_again limits are z.2 f z.7 i.1, variable_again z.3 v z.8 i.2) refl

  again_Load : (ws : List (List ℕ)) (d r f : ℕ) → SpellsStatement ws (statement.Load d r f) → IsStatement limits (statement.Load d r f) → statement_of limits ws ≡ Ok (statement.Load d r f)
  unfolding statement_of four_words
  again_Load ws d r f h i = let z = zip4 ws (Exactly (codes "load")) (register d) (register r) (Numeral f) h in rw (z.4, z.5, target_again limits are z.1 d z.6 i.0, register_again limits are z.2 r z.7 i.1, field_again limits are z.3 f z.8 i.2) refl

  again_Store : (ws : List (List ℕ)) (r f t : ℕ) → SpellsStatement ws (statement.Store r f t) → IsStatement limits (statement.Store r f t) → statement_of limits ws ≡ Ok (statement.Store r f t)
  unfolding statement_of four_words
  again_Store ws r f t h i = let z = zip4 ws (Exactly (codes "store")) (register r) (Numeral f) (register t) h in rw (z.4, z.5, register_again limits are z.1 r z.6 i.0, field_again limits are z.2 f z.7 i.1, register_again limits are z.3 t z.8 i.2) refl

  again_Move : (ws : List (List ℕ)) (d r : ℕ) → SpellsStatement ws (statement.Move d r) → IsStatement limits (statement.Move d r) → statement_of limits ws ≡ Ok (statement.Move d r)
  unfolding statement_of three_words
  again_Move ws d r h i = let z = zip3 ws (Exactly (codes "move")) (register d) (register r) h in rw (z.3, z.4, target_again limits are z.1 d z.5 i.0, register_again limits are z.2 r z.6 i.1) refl

  again_Clear : (ws : List (List ℕ)) (d : ℕ) → SpellsStatement ws (statement.Clear d) → IsStatement limits (statement.Clear d) → statement_of limits ws ≡ Ok (statement.Clear d)
  unfolding statement_of two_words
  again_Clear ws d h i = let z = zip2 ws (Exactly (codes "clear")) (register d) h in rw (z.2, z.3, target_again limits are z.1 d z.4 i) refl

  again_Repeat : (ws : List (List ℕ)) (n : ℕ) → SpellsStatement ws (statement.Repeat n) → IsStatement limits (statement.Repeat n) → statement_of limits ws ≡ Ok (statement.Repeat n)
  unfolding statement_of two_words
  again_Repeat ws n h i = let z = zip2 ws (Exactly (codes "repeat")) (Numeral n) h in rw (z.2, z.3, count_again z.1 n z.4 i) refl

  again_Else : (ws : List (List ℕ)) → SpellsStatement ws statement.Else → IsStatement limits statement.Else → statement_of limits ws ≡ Ok statement.Else
  unfolding statement_of one_word
  again_Else ws h i = let z = zip1 ws (Exactly (codes "else")) h in rw (z.1, z.2) refl

  again_End : (ws : List (List ℕ)) → SpellsStatement ws statement.End → IsStatement limits statement.End → statement_of limits ws ≡ Ok statement.End
  unfolding statement_of one_word
  again_End ws h i = let z = zip1 ws (Exactly (codes "end")) h in rw (z.1, z.2) refl

  again_New : (ws : List (List ℕ)) (d : ℕ) (shape : Shape) → SpellsStatement ws (statement.New d shape) → IsStatement limits (statement.New d shape) → statement_of limits ws ≡ Ok (statement.New d shape)
  unfolding statement_of four_words new_of
  again_New ws d shape h i =
      let z = zip4 ws (Exactly (codes "new")) (register d) (Numeral shape.refs) (Numeral shape.nums) h in
      let few = shape.few in
      rw (z.4, z.5, target_again limits are z.1 d z.6 i.0, size_again z.2 shape.refs z.7 (omega arith), size_again z.3 shape.nums z.8 (omega arith), shape_of_own limits.fields shape i.1) refl

  again_Less : (ws : List (List ℕ)) (v u : ℕ) → SpellsStatement ws (statement.If (test.Less v u)) → IsTest limits (test.Less v u) → statement_of limits ws ≡ Ok (statement.If (test.Less v u))
  unfolding statement_of four_words test_of
  again_Less ws v u h i =
      let z = zip4 ws (Exactly (codes "if")) (variable v) (Exactly (codes "<")) (variable u) h in
      rw (z.4, z.5, z.7, variable_again z.1 v z.6 i.0, variable_again z.3 u z.8 i.1) refl

  again_Equal : (ws : List (List ℕ)) (v u : ℕ) → SpellsStatement ws (statement.If (test.Equal v u)) → IsTest limits (test.Equal v u) → statement_of limits ws ≡ Ok (statement.If (test.Equal v u))
  unfolding statement_of four_words test_of
  again_Equal ws v u h i =
      let z = zip4 ws (Exactly (codes "if")) (variable v) (Exactly (codes "=")) (variable u) h in
      rw (z.4, z.5, z.7, variable_again z.1 v z.6 i.0, variable_again z.3 u z.8 i.1) refl

  again_Null : (ws : List (List ℕ)) (r : ℕ) → SpellsStatement ws (statement.If (test.Null r)) → IsTest limits (test.Null r) → statement_of limits ws ≡ Ok (statement.If (test.Null r))
  unfolding statement_of three_words
  again_Null ws r h i =
      let z = zip3 ws (Exactly (codes "if")) (Exactly (codes "null")) (register r) h in
      rw (z.3, z.4, z.5, register_again limits are z.2 r z.6 i) refl

  again_Same : (ws : List (List ℕ)) (r t : ℕ) → SpellsStatement ws (statement.If (test.Same r t)) → IsTest limits (test.Same r t) → statement_of limits ws ≡ Ok (statement.If (test.Same r t))
  unfolding statement_of four_words test_of
  again_Same ws r t h i =
      let z = zip4 ws (Exactly (codes "if")) (Exactly (codes "same")) (register r) (register t) h in
      rw (z.4, z.5, z.6, z.7, register_again limits are (114 ∷ decimal r) r refl i.0, register_again limits are z.3 t z.8 i.1) refl

  again_If : (ws : List (List ℕ)) (t : Test) → SpellsStatement ws (statement.If t) → IsTest limits t → statement_of limits ws ≡ Ok (statement.If t)
  again_If ws (test.Less v u) h i = again_Less ws v u h i
  again_If ws (test.Equal v u) h i = again_Equal ws v u h i
  again_If ws (test.Null r) h i = again_Null ws r h i
  again_If ws (test.Same r t) h i = again_Same ws r t h i

  -- words that spell a statement, whose arguments are in range, are read as it
  pub statement_again : (ws : List (List ℕ)) (s : Statement) → SpellsStatement ws s → IsStatement limits s → statement_of limits ws ≡ Ok s
  statement_again ws (statement.Work n) h i = again_Work ws n h i
  statement_again ws (statement.Set v n) h i = again_Set ws v n h i
  statement_again ws (statement.Copy v u) h i = again_Copy ws v u h i
  statement_again ws (statement.Add v u) h i = again_Add ws v u h i
  statement_again ws (statement.Sub v u) h i = again_Sub ws v u h i
  statement_again ws (statement.Job v) h i = again_Job ws v h i
  statement_again ws (statement.Out v) h i = again_Out ws v h i
  statement_again ws (statement.Get v r f) h i = again_Get ws v r f h i
  statement_again ws (statement.Put r f v) h i = again_Put ws r f v h i
  statement_again ws (statement.Load d r f) h i = again_Load ws d r f h i
  statement_again ws (statement.Store r f t) h i = again_Store ws r f t h i
  statement_again ws (statement.Move d r) h i = again_Move ws d r h i
  statement_again ws (statement.Clear d) h i = again_Clear ws d h i
  statement_again ws (statement.Repeat n) h i = again_Repeat ws n h i
  statement_again ws statement.Else h i = again_Else ws h i
  statement_again ws statement.End h i = again_End ws h i
  statement_again ws (statement.New d shape) h i = again_New ws d shape h i
  statement_again ws (statement.If t) h i = again_If ws t h i
