-- A line that is read is spelled by its words, and words that spell a line are read as it.
use Rattle.std.proofs.Common.{◌≡◌, ℕ, ◌^◌, ◌<◌, ◌≤◌, List, [], ◌∷◌, ◌++◌, Option, Some, refl, sym, ap, subst}
use Rattle.std.specs.Prelude.{codes}
use Rattle.std.specs.List.{AllZip}
use Rattle.hk_words.specs.declared.call.Call.{Call}
use Rattle.hk_replay.specs.declared.log_line.Reason.{Reason}
use Rattle.hk_replay.specs.declared.log_line.Reason.TheVariants as reason
use Rattle.hk_replay.specs.declared.log_line.Ending.{Ending}
use Rattle.hk_replay.specs.declared.log_line.Ending.TheVariants as ending
use Rattle.hk_replay.specs.declared.log_line.Answer.{Answer}
use Rattle.hk_replay.specs.declared.log_line.Answer.TheVariants as answer
use Rattle.hk_replay.specs.declared.log_line.LogLine.{LogLine}
use Rattle.hk_replay.specs.declared.log_line.LogLine.TheVariants as line
use Rattle.hk_io.specs.Number.{number_of}
use Rattle.hk_replay.specs.Text.{words_of}
use Rattle.hk_replay.specs.Reading.{below, call_of_two, call_of_three, call_of_four, reason_of, begin_of, fault_of, plain_answer_of, answer_of, two_words, three_words, end_of, four_words, five_words, six_words, seven_words, line_of}
use Rattle.hk_replay.specs.Spelling.{Piece, Exactly, Numeral, SpellsPiece, SpellsLine, call_pieces, reason_word, ending_pieces, answer_pieces, pieces, IsEnding, IsAnswer, IsLine}
use Rattle.hk_replay.proofs.Arguments.{some_is, number_takes, number_again, below_takes, below_again}
use Rattle.hk_replay.proofs.Calls.{choose, no_more, one, two, three, Calls, call_of_two_takes, call_of_three_takes, call_of_four_takes, Found, of_two, of_three, of_four, zip2, call_again}

-- words spell a line whose numbers are in their ranges
abbrev pub Says : (tasks : ℕ) → List (List ℕ) → LogLine → Type 0
Says tasks ws l = AllZip SpellsPiece ws (pieces l) × IsLine tasks l

-- one word more spells one piece more
zip_more : (ws : List (List ℕ)) (ps : List Piece) (w : List ℕ) (p : Piece) → AllZip SpellsPiece ws ps → SpellsPiece w p → AllZip SpellsPiece (ws ++ w ∷ []) (ps ++ p ∷ [])
zip_more [] [] w p h s = (s, tt)
zip_more [] (q ∷ ps) w p h s = absurd h
zip_more (v ∷ ws) [] w p h s = absurd h
zip_more (v ∷ ws) (q ∷ ps) w p h s = (h.0, zip_more ws ps w p h.1 s)

-- and the last word spells the last piece
record Last (ws : List (List ℕ)) (ps : List Piece) (p : Piece) : Type 0 where
  front : List (List ℕ)
  last : List ℕ
  is : ws ≡ front ++ last ∷ []
  fronts : AllZip SpellsPiece front ps
  lasts : SpellsPiece last p

zip_last : (ws : List (List ℕ)) (ps : List Piece) (p : Piece) → AllZip SpellsPiece ws (ps ++ p ∷ []) → Last ws ps p
zip_last [] [] p h = absurd h
zip_last (w ∷ []) [] p h = record { front = []; last = w; is = refl; fronts = tt; lasts = h.0 }
zip_last (w ∷ v ∷ ws) [] p h = absurd h.1
zip_last [] (q ∷ ps) p h = absurd h
zip_last (w ∷ ws) (q ∷ ps) p h =
    let z = zip_last ws ps p h.1 in
    record { front = w ∷ z.front; last = z.last; is = ap (λ (t : List (List ℕ)). w ∷ t) z.is; fronts = (h.0, z.fronts); lasts = z.lasts }

-- ---- what is read is spelled so

reason_takes : (word : List ℕ) (r : Reason) → reason_of word ≡ Some r → word ≡ reason_word r
unfolding reason_of
reason_takes word r e =
    let P : Reason → Type 0 = λ r. word ≡ reason_word r in
    choose word (codes "nil") _ _ r (P r) e (λ n f. subst P (some_is reason.Nil r f) n) (λ e.
    choose word (codes "field") _ _ r (P r) e (λ n f. subst P (some_is reason.Field r f) n) (λ e.
    no_more r (P r) e))

begin_takes : (tasks : ℕ) (name a : List ℕ) (ws : List (List ℕ)) (o : Option Call) (l : LogLine) → name ≡ codes "begin" → ((c : Call) → o ≡ Some c → Calls ws c) → begin_of tasks a o ≡ Some l → Says tasks (name ∷ a ∷ ws) l
unfolding begin_of
begin_takes tasks name a ws o l n calls e =
    two (below tasks a) o line.Begin l (λ l. Says tasks (name ∷ a ∷ ws) l) e (λ s c p q. let t = below_takes tasks a s p in let k = calls c q in ((n, (t.0, k.0)), (t.1, k.1)))

fault_takes : (tasks : ℕ) (name a : List ℕ) (ws : List (List ℕ)) (why : List ℕ) (o : Option Call) (l : LogLine) → name ≡ codes "fault" → ((c : Call) → o ≡ Some c → Calls ws c) → fault_of tasks a o why ≡ Some l → Says tasks (name ∷ a ∷ ws ++ why ∷ []) l
unfolding fault_of
fault_takes tasks name a ws why o l n calls e =
    three (below tasks a) o (reason_of why) line.Fault l (λ l. Says tasks (name ∷ a ∷ ws ++ why ∷ []) l) e (λ s c r p q f.
    let t = below_takes tasks a s p in let k = calls c q in
    ((n, (t.0, zip_more ws (call_pieces c) why (Exactly (reason_word r)) k.0 (reason_takes why r f))), (t.1, k.1)))

-- what the collector did
abbrev Answers : (tasks : ℕ) → List (List ℕ) → Answer → Type 0
Answers tasks ws a = AllZip SpellsPiece ws (answer_pieces a) × IsAnswer tasks a

plain_answer_takes : (tasks : ℕ) (a : List ℕ) (x : Answer) → plain_answer_of a ≡ Some x → Answers tasks (a ∷ []) x
unfolding plain_answer_of
plain_answer_takes tasks a x e =
    let P : Answer → Type 0 = λ x. Answers tasks (a ∷ []) x in
    choose a (codes "useful") _ _ x (P x) e (λ n f. subst P (some_is answer.Useful x f) ((n, tt), tt)) (λ e.
    choose a (codes "flip") _ _ x (P x) e (λ n f. subst P (some_is answer.Flip x f) ((n, tt), tt)) (λ e.
    choose a (codes "worn") _ _ x (P x) e (λ n f. subst P (some_is answer.Worn x f) ((n, tt), tt)) (λ e.
    no_more x (P x) e)))

answer_takes : (tasks : ℕ) (a b : List ℕ) (x : Answer) → answer_of tasks a b ≡ Some x → Answers tasks (a ∷ b ∷ []) x
unfolding answer_of
answer_takes tasks a b x e =
    let P : Answer → Type 0 = λ x. Answers tasks (a ∷ b ∷ []) x in
    choose a (codes "lost") _ _ x (P x) e (λ n f. one (number_of b) answer.Lost x P f (λ m p. let t = number_takes b m p in ((n, (t.0, tt)), t.1))) (λ e.
    choose a (codes "frame") _ _ x (P x) e (λ n f. one (below tasks b) answer.Frame x P f (λ m p. let t = below_takes tasks b m p in ((n, (t.0, tt)), t.1))) (λ e.
    choose a (codes "object") _ _ x (P x) e (λ n f. one (number_of b) answer.Object x P f (λ m p. let t = number_takes b m p in ((n, (t.0, tt)), t.1))) (λ e.
    choose a (codes "unlinked") _ _ x (P x) e (λ n f. one (number_of b) answer.Unlinked x P f (λ m p. let t = number_takes b m p in ((n, (t.0, tt)), t.1))) (λ e.
    choose a (codes "grey") _ _ x (P x) e (λ n f. one (number_of b) answer.Grey x P f (λ m p. let t = number_takes b m p in ((n, (t.0, tt)), t.1))) (λ e.
    choose a (codes "live") _ _ x (P x) e (λ n f. one (number_of b) answer.Live x P f (λ m p. let t = number_takes b m p in ((n, (t.0, tt)), t.1))) (λ e.
    no_more x (P x) e))))))

two_words_takes : (tasks : ℕ) (name a : List ℕ) (l : LogLine) → two_words tasks name a ≡ Some l → Says tasks (name ∷ a ∷ []) l
unfolding two_words
two_words_takes tasks name a l e =
    let P : LogLine → Type 0 = λ l. Says tasks (name ∷ a ∷ []) l in
    choose name (codes "step") _ _ l (P l) e (λ n f. one (below tasks a) line.Step l P f (λ m p. let t = below_takes tasks a m p in ((n, (t.0, tt)), t.1))) (λ e.
    choose name (codes "gc") _ _ l (P l) e (λ n f. one (plain_answer_of a) line.Collect l P f (λ x p. let t = plain_answer_takes tasks a x p in ((n, t.0), t.1))) (λ e.
    no_more l (P l) e))

three_words_takes : (tasks : ℕ) (name a b : List ℕ) (l : LogLine) → three_words tasks name a b ≡ Some l → Says tasks (name ∷ a ∷ b ∷ []) l
unfolding three_words
three_words_takes tasks name a b l e =
    let P : LogLine → Type 0 = λ l. Says tasks (name ∷ a ∷ b ∷ []) l in
    choose name (codes "end") _ _ l (P l) e (λ n f.
    choose b (codes "unit") _ _ l (P l) f (λ k f. one (below tasks a) (λ seat. line.End seat ending.Unit) l P f (λ m p. let t = below_takes tasks a m p in ((n, (t.0, (k, tt))), (t.1, tt)))) (λ f.
    no_more l (P l) f)) (λ e.
    choose name (codes "gc") _ _ l (P l) e (λ n f. one (answer_of tasks a b) line.Collect l P f (λ x p. let t = answer_takes tasks a b x p in ((n, t.0), t.1))) (λ e.
    no_more l (P l) e))

end_takes : (tasks : ℕ) (name a b c : List ℕ) (l : LogLine) → name ≡ codes "end" → end_of tasks a b c ≡ Some l → Says tasks (name ∷ a ∷ b ∷ c ∷ []) l
unfolding end_of
end_takes tasks name a b c l n e =
    let P : LogLine → Type 0 = λ l. Says tasks (name ∷ a ∷ b ∷ c ∷ []) l in
    choose b (codes "num") _ _ l (P l) e (λ k f. two (below tasks a) (number_of c) (λ seat m. line.End seat (ending.Num m)) l P f (λ s m p q. let t = below_takes tasks a s p in let u = number_takes c m q in ((n, (t.0, (k, (u.0, tt)))), (t.1, u.1)))) (λ e.
    choose b (codes "full") _ _ l (P l) e (λ k f. two (below tasks a) (number_of c) (λ seat m. line.End seat (ending.Full m)) l P f (λ s m p q. let t = below_takes tasks a s p in let u = number_takes c m q in ((n, (t.0, (k, (u.0, tt)))), (t.1, u.1)))) (λ e.
    no_more l (P l) e))

four_words_takes : (tasks : ℕ) (name a b c : List ℕ) (l : LogLine) → four_words tasks name a b c ≡ Some l → Says tasks (name ∷ a ∷ b ∷ c ∷ []) l
unfolding four_words
four_words_takes tasks name a b c l e =
    let P : LogLine → Type 0 = λ l. Says tasks (name ∷ a ∷ b ∷ c ∷ []) l in
    choose name (codes "begin") _ _ l (P l) e (λ n f. begin_takes tasks name a (b ∷ c ∷ []) (call_of_two b c) l n (call_of_two_takes b c) f) (λ e.
    choose name (codes "end") _ _ l (P l) e (λ n f. end_takes tasks name a b c l n f) (λ e.
    no_more l (P l) e))

five_words_takes : (tasks : ℕ) (name a b c d : List ℕ) (l : LogLine) → five_words tasks name a b c d ≡ Some l → Says tasks (name ∷ a ∷ b ∷ c ∷ d ∷ []) l
unfolding five_words
five_words_takes tasks name a b c d l e =
    let P : LogLine → Type 0 = λ l. Says tasks (name ∷ a ∷ b ∷ c ∷ d ∷ []) l in
    choose name (codes "begin") _ _ l (P l) e (λ n f. begin_takes tasks name a (b ∷ c ∷ d ∷ []) (call_of_three b c d) l n (call_of_three_takes b c d) f) (λ e.
    choose name (codes "fault") _ _ l (P l) e (λ n f. fault_takes tasks name a (b ∷ c ∷ []) d (call_of_two b c) l n (call_of_two_takes b c) f) (λ e.
    no_more l (P l) e))

six_words_takes : (tasks : ℕ) (name a b c d e : List ℕ) (l : LogLine) → six_words tasks name a b c d e ≡ Some l → Says tasks (name ∷ a ∷ b ∷ c ∷ d ∷ e ∷ []) l
unfolding six_words
six_words_takes tasks name a b c d e l h =
    let P : LogLine → Type 0 = λ l. Says tasks (name ∷ a ∷ b ∷ c ∷ d ∷ e ∷ []) l in
    choose name (codes "begin") _ _ l (P l) h (λ n f. begin_takes tasks name a (b ∷ c ∷ d ∷ e ∷ []) (call_of_four b c d e) l n (call_of_four_takes b c d e) f) (λ h.
    choose name (codes "fault") _ _ l (P l) h (λ n f. fault_takes tasks name a (b ∷ c ∷ d ∷ []) e (call_of_three b c d) l n (call_of_three_takes b c d) f) (λ h.
    no_more l (P l) h))

seven_words_takes : (tasks : ℕ) (name a b c d e f : List ℕ) (l : LogLine) → seven_words tasks name a b c d e f ≡ Some l → Says tasks (name ∷ a ∷ b ∷ c ∷ d ∷ e ∷ f ∷ []) l
unfolding seven_words
seven_words_takes tasks name a b c d e f l h =
    let P : LogLine → Type 0 = λ l. Says tasks (name ∷ a ∷ b ∷ c ∷ d ∷ e ∷ f ∷ []) l in
    choose name (codes "fault") _ _ l (P l) h (λ n k. fault_takes tasks name a (b ∷ c ∷ d ∷ e ∷ []) f (call_of_four b c d e) l n (call_of_four_takes b c d e) k) (λ h.
    no_more l (P l) h)

line_takes : (tasks : ℕ) (ws : List (List ℕ)) (l : LogLine) → line_of tasks ws ≡ Some l → Says tasks ws l
unfolding line_of
line_takes tasks [] l h = absurd cc
line_takes tasks (name ∷ []) l h = absurd cc
line_takes tasks (name ∷ a ∷ []) l h = two_words_takes tasks name a l h
line_takes tasks (name ∷ a ∷ b ∷ []) l h = three_words_takes tasks name a b l h
line_takes tasks (name ∷ a ∷ b ∷ c ∷ []) l h = four_words_takes tasks name a b c l h
line_takes tasks (name ∷ a ∷ b ∷ c ∷ d ∷ []) l h = five_words_takes tasks name a b c d l h
line_takes tasks (name ∷ a ∷ b ∷ c ∷ d ∷ e ∷ []) l h = six_words_takes tasks name a b c d e l h
line_takes tasks (name ∷ a ∷ b ∷ c ∷ d ∷ e ∷ f ∷ []) l h = seven_words_takes tasks name a b c d e f l h
line_takes tasks (name ∷ a ∷ b ∷ c ∷ d ∷ e ∷ f ∷ g ∷ more) l h = absurd cc

-- ---- what spells a line is read as it

-- so many tasks are few
abbrev IsFew : ℕ → Type 0
IsFew tasks = tasks ≤ 2 ^ 64

module _ (tasks : ℕ) (few : IsFew tasks) where
  begin_again : (a : List ℕ) (o : Option Call) (s : ℕ) (c : Call) → SpellsPiece a (Numeral s) → s < tasks → o ≡ Some c → begin_of tasks a o ≡ Some (line.Begin s c)
  unfolding begin_of
  begin_again a o s c h lt e = rw (below_again tasks a s h lt few, e) refl

  fault_again : (a : List ℕ) (o : Option Call) (why : List ℕ) (s : ℕ) (c : Call) (r : Reason) → SpellsPiece a (Numeral s) → s < tasks → o ≡ Some c → reason_of why ≡ Some r → fault_of tasks a o why ≡ Some (line.Fault s c r)
  unfolding fault_of
  fault_again a o why s c r h lt e f = rw (below_again tasks a s h lt few, e, f) refl

  begin_two : (a x y : List ℕ) (l : LogLine) → begin_of tasks a (call_of_two x y) ≡ Some l → line_of tasks (codes "begin" ∷ a ∷ x ∷ y ∷ []) ≡ Some l
  unfolding line_of four_words
  begin_two a x y l e = e

  begin_three : (a x y z : List ℕ) (l : LogLine) → begin_of tasks a (call_of_three x y z) ≡ Some l → line_of tasks (codes "begin" ∷ a ∷ x ∷ y ∷ z ∷ []) ≡ Some l
  unfolding line_of five_words
  begin_three a x y z l e = e

  begin_four : (a x y z v : List ℕ) (l : LogLine) → begin_of tasks a (call_of_four x y z v) ≡ Some l → line_of tasks (codes "begin" ∷ a ∷ x ∷ y ∷ z ∷ v ∷ []) ≡ Some l
  unfolding line_of six_words
  begin_four a x y z v l e = e

  fault_two : (a x y w : List ℕ) (l : LogLine) → fault_of tasks a (call_of_two x y) w ≡ Some l → line_of tasks (codes "fault" ∷ a ∷ x ∷ y ∷ w ∷ []) ≡ Some l
  unfolding line_of five_words
  fault_two a x y w l e = e

  fault_three : (a x y z w : List ℕ) (l : LogLine) → fault_of tasks a (call_of_three x y z) w ≡ Some l → line_of tasks (codes "fault" ∷ a ∷ x ∷ y ∷ z ∷ w ∷ []) ≡ Some l
  unfolding line_of six_words
  fault_three a x y z w l e = e

  fault_four : (a x y z v w : List ℕ) (l : LogLine) → fault_of tasks a (call_of_four x y z v) w ≡ Some l → line_of tasks (codes "fault" ∷ a ∷ x ∷ y ∷ z ∷ v ∷ w ∷ []) ≡ Some l
  unfolding line_of seven_words
  fault_four a x y z v w l e = e

  -- words are the ones that are read
  as_words : (name key a : List ℕ) (ws vs : List (List ℕ)) (l : LogLine) → name ≡ key → ws ≡ vs → line_of tasks (key ∷ a ∷ vs) ≡ Some l → line_of tasks (name ∷ a ∷ ws) ≡ Some l
  as_words name key a ws vs l n is e =
      subst (λ (k : List ℕ). line_of tasks (k ∷ a ∷ ws) ≡ Some l) (sym n) (subst (λ (ts : List (List ℕ)). line_of tasks (key ∷ a ∷ ts) ≡ Some l) (sym is) e)

  words_are : (name : List ℕ) (ws vs : List (List ℕ)) (l : LogLine) → ws ≡ vs → line_of tasks (name ∷ vs) ≡ Some l → line_of tasks (name ∷ ws) ≡ Some l
  words_are name ws vs l is e = subst (λ (ts : List (List ℕ)). line_of tasks (name ∷ ts) ≡ Some l) (sym is) e

  all_words : (ws vs : List (List ℕ)) (l : LogLine) → ws ≡ vs → line_of tasks vs ≡ Some l → line_of tasks ws ≡ Some l
  all_words ws vs l is e = subst (λ (ts : List (List ℕ)). line_of tasks ts ≡ Some l) (sym is) e

  begin_line : (name a : List ℕ) (ws : List (List ℕ)) (s : ℕ) (c : Call) → name ≡ codes "begin" → SpellsPiece a (Numeral s) → s < tasks → Found ws c → line_of tasks (name ∷ a ∷ ws) ≡ Some (line.Begin s c)
  begin_line name a ws s c n h lt (of_two x y is e) = as_words name _ a ws _ _ n is (begin_two a x y _ (begin_again a (call_of_two x y) s c h lt e))
  begin_line name a ws s c n h lt (of_three x y z is e) = as_words name _ a ws _ _ n is (begin_three a x y z _ (begin_again a (call_of_three x y z) s c h lt e))
  begin_line name a ws s c n h lt (of_four x y z v is e) = as_words name _ a ws _ _ n is (begin_four a x y z v _ (begin_again a (call_of_four x y z v) s c h lt e))

  fault_line : (name a : List ℕ) (ws : List (List ℕ)) (why : List ℕ) (s : ℕ) (c : Call) (r : Reason) → name ≡ codes "fault" → SpellsPiece a (Numeral s) → s < tasks → Found ws c → reason_of why ≡ Some r
      → line_of tasks (name ∷ a ∷ ws ++ why ∷ []) ≡ Some (line.Fault s c r)
  fault_line name a ws why s c r n h lt (of_two x y is e) f =
      as_words name _ a _ _ _ n (ap (λ (ts : List (List ℕ)). ts ++ why ∷ []) is) (fault_two a x y why _ (fault_again a (call_of_two x y) why s c r h lt e f))
  fault_line name a ws why s c r n h lt (of_three x y z is e) f =
      as_words name _ a _ _ _ n (ap (λ (ts : List (List ℕ)). ts ++ why ∷ []) is) (fault_three a x y z why _ (fault_again a (call_of_three x y z) why s c r h lt e f))
  fault_line name a ws why s c r n h lt (of_four x y z v is e) f =
      as_words name _ a _ _ _ n (ap (λ (ts : List (List ℕ)). ts ++ why ∷ []) is) (fault_four a x y z v why _ (fault_again a (call_of_four x y z v) why s c r h lt e f))

  reason_again : (word : List ℕ) (r : Reason) → word ≡ reason_word r → reason_of word ≡ Some r
  unfolding reason_of
  reason_again word reason.Nil e = rw e refl
  reason_again word reason.Field e = rw e refl

  step_line : (name a : List ℕ) (s : ℕ) → name ≡ codes "step" → SpellsPiece a (Numeral s) → s < tasks → line_of tasks (name ∷ a ∷ []) ≡ Some (line.Step s)
  unfolding line_of two_words
  step_line name a s n h lt = rw (n, below_again tasks a s h lt few) refl

  unit_line : (name a b : List ℕ) (s : ℕ) → name ≡ codes "end" → SpellsPiece a (Numeral s) → s < tasks → b ≡ codes "unit" → line_of tasks (name ∷ a ∷ b ∷ []) ≡ Some (line.End s ending.Unit)
  unfolding line_of three_words
  unit_line name a b s n h lt k = rw (n, k, below_again tasks a s h lt few) refl

  num_line : (name a b c : List ℕ) (s m : ℕ) → name ≡ codes "end" → SpellsPiece a (Numeral s) → s < tasks → b ≡ codes "num" → number_of c ≡ Some m → line_of tasks (name ∷ a ∷ b ∷ c ∷ []) ≡ Some (line.End s (ending.Num m))
  unfolding line_of four_words end_of
  num_line name a b c s m n h lt k e = rw (n, k, below_again tasks a s h lt few, e) refl

  full_line : (name a b c : List ℕ) (s m : ℕ) → name ≡ codes "end" → SpellsPiece a (Numeral s) → s < tasks → b ≡ codes "full" → number_of c ≡ Some m → line_of tasks (name ∷ a ∷ b ∷ c ∷ []) ≡ Some (line.End s (ending.Full m))
  unfolding line_of four_words end_of
  full_line name a b c s m n h lt k e = rw (n, k, below_again tasks a s h lt few, e) refl

  plain_line : (name a key : List ℕ) (x : Answer) → name ≡ codes "gc" → a ≡ key → plain_answer_of key ≡ Some x → line_of tasks (name ∷ a ∷ []) ≡ Some (line.Collect x)
  unfolding line_of two_words
  plain_line name a key x n k e = rw (n, k, e) refl

  answer_line : (name a b key : List ℕ) (x : Answer) → name ≡ codes "gc" → a ≡ key → answer_of tasks key b ≡ Some x → line_of tasks (name ∷ a ∷ b ∷ []) ≡ Some (line.Collect x)
  unfolding line_of three_words
  answer_line name a b key x n k e = rw (n, k, e) refl

  useful_again : plain_answer_of (codes "useful") ≡ Some answer.Useful
  unfolding plain_answer_of
  useful_again = refl

  flip_again : plain_answer_of (codes "flip") ≡ Some answer.Flip
  unfolding plain_answer_of
  flip_again = refl

  worn_again : plain_answer_of (codes "worn") ≡ Some answer.Worn
  unfolding plain_answer_of
  worn_again = refl

  lost_again : (b : List ℕ) (m : ℕ) → number_of b ≡ Some m → answer_of tasks (codes "lost") b ≡ Some (answer.Lost m)
  unfolding answer_of
  lost_again b m e = rw e refl

  frame_again : (b : List ℕ) (m : ℕ) → below tasks b ≡ Some m → answer_of tasks (codes "frame") b ≡ Some (answer.Frame m)
  unfolding answer_of
  frame_again b m e = rw e refl

  object_again : (b : List ℕ) (m : ℕ) → number_of b ≡ Some m → answer_of tasks (codes "object") b ≡ Some (answer.Object m)
  unfolding answer_of
  object_again b m e = rw e refl

  unlinked_again : (b : List ℕ) (m : ℕ) → number_of b ≡ Some m → answer_of tasks (codes "unlinked") b ≡ Some (answer.Unlinked m)
  unfolding answer_of
  unlinked_again b m e = rw e refl

  grey_again : (b : List ℕ) (m : ℕ) → number_of b ≡ Some m → answer_of tasks (codes "grey") b ≡ Some (answer.Grey m)
  unfolding answer_of
  grey_again b m e = rw e refl

  live_again : (b : List ℕ) (m : ℕ) → number_of b ≡ Some m → answer_of tasks (codes "live") b ≡ Some (answer.Live m)
  unfolding answer_of
  live_again b m e = rw e refl

  collect_again : (name : List ℕ) (ws : List (List ℕ)) (x : Answer) → name ≡ codes "gc" → AllZip SpellsPiece ws (answer_pieces x) → IsAnswer tasks x → line_of tasks (name ∷ ws) ≡ Some (line.Collect x)
  collect_again name [] answer.Useful n h i = absurd h
  collect_again name (a ∷ []) answer.Useful n h i = plain_line name a (codes "useful") _ n h.0 useful_again
  collect_again name (a ∷ b ∷ ws) answer.Useful n h i = absurd h.1
  collect_again name [] answer.Flip n h i = absurd h
  collect_again name (a ∷ []) answer.Flip n h i = plain_line name a (codes "flip") _ n h.0 flip_again
  collect_again name (a ∷ b ∷ ws) answer.Flip n h i = absurd h.1
  collect_again name [] answer.Worn n h i = absurd h
  collect_again name (a ∷ []) answer.Worn n h i = plain_line name a (codes "worn") _ n h.0 worn_again
  collect_again name (a ∷ b ∷ ws) answer.Worn n h i = absurd h.1
  collect_again name ws (answer.Lost m) n h i = let z = zip2 ws (Exactly (codes "lost")) (Numeral m) h in words_are name ws _ _ z.2 (answer_line name z.0 z.1 (codes "lost") _ n z.3 (lost_again z.1 m (number_again z.1 m z.4 i)))
  collect_again name ws (answer.Frame m) n h i = let z = zip2 ws (Exactly (codes "frame")) (Numeral m) h in words_are name ws _ _ z.2 (answer_line name z.0 z.1 (codes "frame") _ n z.3 (frame_again z.1 m (below_again tasks z.1 m z.4 i few)))
  collect_again name ws (answer.Object m) n h i = let z = zip2 ws (Exactly (codes "object")) (Numeral m) h in words_are name ws _ _ z.2 (answer_line name z.0 z.1 (codes "object") _ n z.3 (object_again z.1 m (number_again z.1 m z.4 i)))
  collect_again name ws (answer.Unlinked m) n h i = let z = zip2 ws (Exactly (codes "unlinked")) (Numeral m) h in words_are name ws _ _ z.2 (answer_line name z.0 z.1 (codes "unlinked") _ n z.3 (unlinked_again z.1 m (number_again z.1 m z.4 i)))
  collect_again name ws (answer.Grey m) n h i = let z = zip2 ws (Exactly (codes "grey")) (Numeral m) h in words_are name ws _ _ z.2 (answer_line name z.0 z.1 (codes "grey") _ n z.3 (grey_again z.1 m (number_again z.1 m z.4 i)))
  collect_again name ws (answer.Live m) n h i = let z = zip2 ws (Exactly (codes "live")) (Numeral m) h in words_are name ws _ _ z.2 (answer_line name z.0 z.1 (codes "live") _ n z.3 (live_again z.1 m (number_again z.1 m z.4 i)))

  end_again : (name a : List ℕ) (ws : List (List ℕ)) (s : ℕ) (x : Ending) → name ≡ codes "end" → SpellsPiece a (Numeral s) → s < tasks → AllZip SpellsPiece ws (ending_pieces x) → IsEnding x → line_of tasks (name ∷ a ∷ ws) ≡ Some (line.End s x)
  end_again name a [] s ending.Unit n t lt h i = absurd h
  end_again name a (b ∷ []) s ending.Unit n t lt h i = unit_line name a b s n t lt h.0
  end_again name a (b ∷ c ∷ ws) s ending.Unit n t lt h i = absurd h.1
  end_again name a ws s (ending.Num m) n t lt h i = let z = zip2 ws (Exactly (codes "num")) (Numeral m) h in as_words name name a ws _ _ refl z.2 (num_line name a z.0 z.1 s m n t lt z.3 (number_again z.1 m z.4 i))
  end_again name a ws s (ending.Full m) n t lt h i = let z = zip2 ws (Exactly (codes "full")) (Numeral m) h in as_words name name a ws _ _ refl z.2 (full_line name a z.0 z.1 s m n t lt z.3 (number_again z.1 m z.4 i))

  line_again : (ws : List (List ℕ)) (l : LogLine) → AllZip SpellsPiece ws (pieces l) → IsLine tasks l → line_of tasks ws ≡ Some l
  line_again [] (line.Begin s c) h i = absurd h
  line_again (n ∷ []) (line.Begin s c) h i = absurd h.1
  line_again (n ∷ a ∷ ws) (line.Begin s c) h i = begin_line n a ws s c h.0 h.1.0 i.0 (call_again ws c h.1.1 i.1)
  line_again [] (line.Fault s c r) h i = absurd h
  line_again (n ∷ []) (line.Fault s c r) h i = absurd h.1
  line_again (n ∷ a ∷ ws) (line.Fault s c r) h i =
      let z = zip_last ws (call_pieces c) (Exactly (reason_word r)) h.1.1 in
      as_words n n a ws _ _ refl z.is (fault_line n a z.front z.last s c r h.0 h.1.0 i.0 (call_again z.front c z.fronts i.1) (reason_again z.last r z.lasts))
  line_again ws (line.Step s) h i = let z = zip2 ws (Exactly (codes "step")) (Numeral s) h in all_words ws _ _ z.2 (step_line z.0 z.1 s z.3 z.4 i)
  line_again [] (line.End s x) h i = absurd h
  line_again (n ∷ []) (line.End s x) h i = absurd h.1
  line_again (n ∷ a ∷ ws) (line.End s x) h i = end_again n a ws s x h.0 h.1.0 i.0 h.1.1 i.1
  line_again [] (line.Collect x) h i = absurd h
  line_again (n ∷ ws) (line.Collect x) h i = collect_again n ws x h.0 h.1 i

-- ---- texts

pub text_takes : (tasks : ℕ) (text : List ℕ) (l : LogLine) → line_of tasks (words_of text) ≡ Some l → SpellsLine tasks text l
text_takes tasks text l e = let p = line_takes tasks (words_of text) l e in record { spelled = p.0; ranges = p.1 }

pub text_again : (tasks : ℕ) (text : List ℕ) (l : LogLine) → tasks ≤ 2 ^ 64 → SpellsLine tasks text l → line_of tasks (words_of text) ≡ Some l
text_again tasks text l few h = line_again tasks few (words_of text) l h.spelled h.ranges
