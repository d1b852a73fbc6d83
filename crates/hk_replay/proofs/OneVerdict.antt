-- A text comes to one verdict.
use Rattle.std.proofs.Common.{◌≡◌, ℕ, ◌^◌, ◌+◌, ◌<◌, ◌≤◌, ◌⊎◌, inl, inr, List, [], ◌∷◌, ◌++◌, length, refl, sym, ap, ◌∙◌, subst, arith}
use Rattle.std.proofs.lemmas.Bool.{cases_lt}
use Rattle.std.specs.List.{AllZip}
use Rattle.hk_words.specs.declared.geometry.Geometry.{Geometry}
use Rattle.hk_words.specs.Geometry.{tasks}
use Rattle.hk_replay.specs.declared.judge.Verdict.{Verdict}
use Rattle.hk_replay.specs.declared.judge.Verdict.TheVariants as verdict
use Rattle.hk_replay.specs.declared.replayed.Replayed.{Replayed}
use Rattle.hk_replay.specs.declared.log_line.LogLine.{LogLine}
use Rattle.hk_replay.specs.Spelling.{Opens, SpellsLine}
use Rattle.hk_replay.specs.Answers.{AreAnswers, DiffersAt}
use Rattle.hk_replay.specs.Log.{IsLog, IsNoLog, HasBadLine, no_opening, bad_line}
use Rattle.hk_replay.specs.Judged.{IsWhole, IsDifferent, IsVerdict}
use Rattle.hk_replay.specs.Printing.{verdict_line}
use Rattle.hk_replay.specs.Tool.{ended_by, CheckCallsFor, too_long, judged}
use Rattle.hk_replay.proofs.Arguments.{some_is}
use Rattle.hk_replay.proofs.Judging.{few_tasks}
use Rattle.hk_replay.proofs.Openings.{one_opening}
use Rattle.hk_replay.proofs.Runs.{are_here}
use Rattle.hk_replay.proofs.Spelled.{text_again}

-- THE PARTS OF ONE LIST

head_is : {A : Type 0} (a b : A) (xs ys : List A) → a ∷ xs ≡ b ∷ ys → a ≡ b
head_is a b xs ys e = cc

tail_is : {A : Type 0} (a b : A) (xs ys : List A) → a ∷ xs ≡ b ∷ ys → xs ≡ ys
tail_is a b xs ys e = cc

-- of two parts of one list, each in front of an element, the longer one begins with the other and its element
longer_has : {A : Type 0} (xs ys us vs : List A) (x y : A) → xs ++ x ∷ us ≡ ys ++ y ∷ vs → length xs < length ys → (mid : List A) × (ys ≡ xs ++ x ∷ mid)
longer_has [] [] us vs x y e less = absurd (omega (arith, less))
longer_has [] (z ∷ ys) us vs x y e less = (ys, ap (λ w. w ∷ ys) (sym (head_is x z us (ys ++ y ∷ vs) e)))
longer_has (w ∷ xs) [] us vs x y e less = absurd (omega (arith, less))
longer_has (w ∷ xs) (z ∷ ys) us vs x y e less =
    let rest = longer_has xs ys us vs x y (tail_is w z (xs ++ x ∷ us) (ys ++ y ∷ vs) e) (omega (arith, less)) in
    (rest.0, ap (λ v. v ∷ ys) (sym (head_is w z (xs ++ x ∷ us) (ys ++ y ∷ vs) e)) ∙ ap (λ l. w ∷ l) rest.1)

-- two numbers of which neither is below the other
same_number : (n m : ℕ) → (n < m → ⊥) → (m < n → ⊥) → n ≡ m
same_number n m a b = by_order (cases_lt n m) (cases_lt m n) where
  by_order : (n < m) ⊎ (m ≤ n) → (m < n) ⊎ (n ≤ m) → n ≡ m
  by_order (inl less) other = absurd (a less)
  by_order (inr le) (inl less) = absurd (b less)
  by_order (inr le) (inr ge) = omega (arith, le, ge)

-- a text spells one line at most
one_line : (n : ℕ) (text : List ℕ) (l k : LogLine) → n ≤ 2 ^ 64 → SpellsLine n text l → SpellsLine n text k → l ≡ k
one_line n text l k few h i = some_is l k (sym (text_again n text l few h) ∙ text_again n text k few i)

same_lines : (n : ℕ) (ts : List (List ℕ)) (ls ks : List LogLine) → n ≤ 2 ^ 64 → AllZip (SpellsLine n) ts ls → AllZip (SpellsLine n) ts ks → ls ≡ ks
same_lines n [] [] [] few h i = refl
same_lines n [] [] (k ∷ ks) few h i = absurd i
same_lines n [] (l ∷ ls) ks few h i = absurd h
same_lines n (t ∷ ts) [] ks few h i = absurd h
same_lines n (t ∷ ts) (l ∷ ls) [] few h i = absurd i
same_lines n (t ∷ ts) (l ∷ ls) (k ∷ ks) few h i =
    ap (λ (x : LogLine). x ∷ ls) (one_line n t l k few h.0 i.0) ∙ ap (λ (xs : List LogLine). k ∷ xs) (same_lines n ts ls ks few h.1 i.1)

-- and one log
same_geometry : (text : List ℕ) (g h : Geometry) (ls ks : List LogLine) → IsLog text g ls → IsLog text h ks → g ≡ h
same_geometry text g h ls ks a b =
    one_opening a.first g h a.opens (subst (λ (t : List ℕ). Opens t h) (sym (head_is a.first b.first a.others b.others (sym a.parts ∙ b.parts))) b.opens)

same_log_lines : (text : List ℕ) (g : Geometry) (ls ks : List LogLine) → IsLog text g ls → IsLog text g ks → ls ≡ ks
same_log_lines text g ls ks a b =
    same_lines (tasks g) a.others ls ks (few_tasks g) a.spelled
    (subst (λ (ts : List (List ℕ)). AllZip (SpellsLine (tasks g)) ts ks) (sym (tail_is a.first b.first a.others b.others (sym a.parts ∙ b.parts))) b.spelled)

-- lines that are all the ones for their actions have none that differs
not_different : (g : Geometry) (ls : List LogLine) (n : ℕ) → AreAnswers g ls → DiffersAt g ls n → ⊥
not_different g ls n are d = d.differs (are_here g d.before d.behind d.line (subst (AreAnswers g) d.parts are))

same_one : (text : List ℕ) (g h : Geometry) (ls ks : List LogLine) (n : ℕ) → IsLog text g ls → IsLog text h ks → AreAnswers g ls → DiffersAt h ks n → ⊥
same_one text g h ls ks n a b are d =
    let same = same_geometry text g h ls ks a b in
    let on_h : IsLog text h ls = subst (λ (k : Geometry). IsLog text k ls) same a in
    let are_h : AreAnswers h ls = subst (λ (k : Geometry). AreAnswers k ls) same are in
    not_different h ks n (subst (AreAnswers h) (same_log_lines text h ls ks on_h b) are_h) d

whole_differs : (text : List ℕ) (n m : ℕ) → IsWhole text n → IsDifferent text m → ⊥
whole_differs text n m w d = same_one text w.g d.g w.lines d.lines m w.log d.log w.answers d.at

-- a line between others
spelled_at : (n : ℕ) (before behind : List (List ℕ)) (bad : List ℕ) (ls : List LogLine) → AllZip (SpellsLine n) (before ++ bad ∷ behind) ls → (l : LogLine) × SpellsLine n bad l
spelled_at n [] behind bad [] h = absurd h
spelled_at n [] behind bad (l ∷ ls) h = (l, h.0)
spelled_at n (t ∷ before) behind bad [] h = absurd h
spelled_at n (t ∷ before) behind bad (l ∷ ls) h = spelled_at n before behind bad ls h.1

log_none : (text : List ℕ) (g : Geometry) (ls : List LogLine) (n : ℕ) → IsLog text g ls → IsNoLog text n → ⊥
log_none text g ls n a (no_opening none is) = none.none a.first a.others g a.parts a.opens
log_none text g ls n a (bad_line b) =
    let e = sym a.parts ∙ b.parts in
    let same = one_opening a.first g b.g a.opens (subst (λ (t : List ℕ). Opens t b.g) (sym (head_is a.first b.first a.others (b.before ++ b.bad ∷ b.behind) e)) b.opens) in
    let spelled : AllZip (SpellsLine (tasks g)) (b.before ++ b.bad ∷ b.behind) ls = subst (λ (ts : List (List ℕ)). AllZip (SpellsLine (tasks g)) ts ls) (tail_is a.first b.first a.others (b.before ++ b.bad ∷ b.behind) e) a.spelled in
    let found = spelled_at (tasks g) b.before b.behind b.bad ls spelled in
    b.none found.0 (subst (λ (k : Geometry). SpellsLine (tasks k) b.bad found.0) same found.1)

same_whole : (text : List ℕ) (n m : ℕ) → IsWhole text n → IsWhole text m → n ≡ m
same_whole text n m h i =
    let same = same_geometry text h.g i.g h.lines i.lines h.log i.log in
    let on : IsLog text i.g h.lines = subst (λ (g : Geometry). IsLog text g h.lines) same h.log in
    h.counted ∙ ap (λ (l : List LogLine). length l + 1) (same_log_lines text i.g h.lines i.lines on i.log) ∙ sym i.counted

-- no line that differs stands before the first that does
none_before : (g : Geometry) (lines : List LogLine) (n m : ℕ) → DiffersAt g lines n → DiffersAt g lines m → n < m → ⊥
none_before g lines n m a b less =
    let counts_a = a.counted in
    let counts_b = b.counted in
    let found = longer_has a.before b.before a.behind b.behind a.line b.line (sym a.parts ∙ b.parts) (omega (arith, less, counts_a, counts_b)) in
    a.differs (are_here g a.before found.0 a.line (subst (AreAnswers g) found.1 b.answers))

same_different : (text : List ℕ) (n m : ℕ) → IsDifferent text n → IsDifferent text m → n ≡ m
same_different text n m h i =
    let same = same_geometry text h.g i.g h.lines i.lines h.log i.log in
    let on : IsLog text i.g h.lines = subst (λ (g : Geometry). IsLog text g h.lines) same h.log in
    let at : DiffersAt i.g h.lines n = subst (λ (g : Geometry). DiffersAt g h.lines n) same h.at in
    let here : DiffersAt i.g i.lines n = subst (λ (l : List LogLine). DiffersAt i.g l n) (same_log_lines text i.g h.lines i.lines on i.log) at in
    same_number n m (none_before i.g i.lines n m here i.at) (none_before i.g i.lines m n i.at here)

-- no line that isn't of its form stands before the first that isn't
none_bad_before : (text : List ℕ) (n m : ℕ) → HasBadLine text n → HasBadLine text m → n < m → ⊥
none_bad_before text n m a b less =
    let counts_a = a.counted in
    let counts_b = b.counted in
    let e = sym a.parts ∙ b.parts in
    let first = head_is a.first b.first (a.before ++ a.bad ∷ a.behind) (b.before ++ b.bad ∷ b.behind) e in
    let others = tail_is a.first b.first (a.before ++ a.bad ∷ a.behind) (b.before ++ b.bad ∷ b.behind) e in
    let same = one_opening a.first a.g b.g a.opens (subst (λ (t : List ℕ). Opens t b.g) (sym first) b.opens) in
    let found = longer_has a.before b.before a.behind b.behind a.bad b.bad others (omega (arith, less, counts_a, counts_b)) in
    let spelled : AllZip (SpellsLine (tasks b.g)) (a.before ++ a.bad ∷ found.0) b.lines = subst (λ (ts : List (List ℕ)). AllZip (SpellsLine (tasks b.g)) ts b.lines) found.1 b.spelled in
    let line = spelled_at (tasks b.g) a.before found.0 a.bad b.lines spelled in
    a.none line.0 (subst (λ (g : Geometry). SpellsLine (tasks g) a.bad line.0) (sym same) line.1)

same_bad : (text : List ℕ) (n m : ℕ) → IsNoLog text n → IsNoLog text m → n ≡ m
same_bad text n m (no_opening a is) (no_opening b also) = is ∙ sym also
same_bad text n m (no_opening a is) (bad_line b) = absurd (a.none b.first (b.before ++ b.bad ∷ b.behind) b.g b.parts b.opens)
same_bad text n m (bad_line a) (no_opening b is) = absurd (b.none a.first (a.before ++ a.bad ∷ a.behind) a.g a.parts a.opens)
same_bad text n m (bad_line a) (bad_line b) = same_number n m (none_bad_before text n m a b) (none_bad_before text m n b a)

one_verdict : (text : List ℕ) (a b : Verdict) → IsVerdict text a → IsVerdict text b → a ≡ b
one_verdict text (verdict.Whole n) (verdict.Whole m) h i = ap verdict.Whole (same_whole text n m h i)
one_verdict text (verdict.Whole n) (verdict.Differs m) h i = absurd (whole_differs text n m h i)
one_verdict text (verdict.Whole n) (verdict.Log m) h i = absurd (log_none text h.g h.lines m h.log i)
one_verdict text (verdict.Differs n) (verdict.Whole m) h i = absurd (whole_differs text m n i h)
one_verdict text (verdict.Differs n) (verdict.Differs m) h i = ap verdict.Differs (same_different text n m h i)
one_verdict text (verdict.Differs n) (verdict.Log m) h i = absurd (log_none text h.g h.lines m h.log i)
one_verdict text (verdict.Log n) (verdict.Whole m) h i = absurd (log_none text i.g i.lines n i.log h)
one_verdict text (verdict.Log n) (verdict.Differs m) h i = absurd (log_none text i.g i.lines n i.log h)
one_verdict text (verdict.Log n) (verdict.Log m) h i = ap verdict.Log (same_bad text n m h i)

-- so `check` ends in one way
pub one_check : (bytes t u : List ℕ) (a b : Replayed) → CheckCallsFor bytes a t → CheckCallsFor bytes b u → a ≡ b
one_check bytes t u a b (too_long long e x) (too_long long' f y) = e ∙ sym f
one_check bytes t u a b (too_long long e x) (judged short said v f y) = absurd (omega (arith, long, short))
one_check bytes t u a b (judged short said v e x) (too_long long f y) = absurd (omega (arith, long, short))
one_check bytes t u a b (judged short said v e x) (judged short' said' v' f y) = e ∙ ap ended_by (one_verdict bytes said said' v v') ∙ sym f

-- and writes one line
pub one_line_written : (bytes t u : List ℕ) (a b : Replayed) → CheckCallsFor bytes a t → CheckCallsFor bytes b u → t ≡ u
one_line_written bytes t u a b (too_long long e x) (too_long long' f y) = x ∙ sym y
one_line_written bytes t u a b (too_long long e x) (judged short said v f y) = absurd (omega (arith, long, short))
one_line_written bytes t u a b (judged short said v e x) (too_long long f y) = absurd (omega (arith, long, short))
one_line_written bytes t u a b (judged short said v e x) (judged short' said' v' f y) = x ∙ ap verdict_line (one_verdict bytes said said' v v') ∙ sym y
