-- What is read is spelled so, and what is spelled so is read.
use Rattle.std.proofs.Common.{◌≡◌, ℕ, ◌+◌, ◌<◌, ◌≤◌, Bool, true, false, List, [], ◌∷◌, ◌++◌, length, map, take, drop, Result, Ok, Err, refl, sym, ap, ◌∙◌, subst, arith, append_assoc, length-append}
use Rattle.std.specs.Prelude.{nat_lt, filter, ◌==◌, MatchResult, IfOk}
use Rattle.std.specs.List.{AllZip, AllByRecursion}
use Rattle.std.proofs.lemmas.Bool.{false_from_ne_true}
use Rattle.std.proofs.lemmas.Bool.Decides.{nat_tests}
use Rattle.std.proofs.lemmas.List.{length-map, append-nil}
use Rattle.hk_script.specs.declared.blocks.Open.{Open}
use Rattle.hk_script.specs.declared.blocks.Part.{Part}
use Rattle.hk_script.specs.declared.blocks.Part.TheVariants as part
use Rattle.hk_script.specs.declared.error.Fault.{Fault}
use Rattle.hk_script.specs.declared.error.Fault.TheVariants as fault
use Rattle.hk_script.specs.declared.error.ScriptError.{ScriptError}
use Rattle.hk_script.specs.declared.error.ScriptError.TheVariants as error
use Rattle.hk_script.specs.declared.limits.Limits.{Limits}
use Rattle.hk_script.specs.declared.statement.Statement.{Statement}
use Rattle.hk_script.specs.declared.statement.Statement.TheVariants as statement
use Rattle.std.specs.List.{position_or_len}
use Rattle.std.proofs.lemmas.List.Elements.{All-from_get_or}
use Rattle.std.proofs.lemmas.List.Splits.{slice_split_first, slice_split_none}
use Rattle.std.proofs.lemmas.List.Sums.{position_or_len_is}
use Rattle.memchr.specs.Find.{NoneBefore, Nowhere, Passes, is_byte}
use Rattle.hk_script.specs.Limits.{AreLimits}
use Rattle.hk_script.specs.Lex.{words, lines}
use Rattle.hk_script.specs.Reading.{statement_of}
use Rattle.hk_script.specs.Spelling.{SpellsStatement, IsStatement}
use Rattle.hk_script.specs.Blocks.{open_block, begun, parted_by, parted, ended, nest, nested}
use Rattle.hk_script.specs.Texts.{Progress, nothing_read, added, placed, line_read, then_at, done, next_line, lines_read, finished, finish, script_of, has_words, statement_lines, Spells, Refuses, Gives}
use Rattle.hk_script.proofs.Arguments.{bind_ok, ok_is, passed_or, done as given}
use Rattle.hk_script.proofs.Statements.{statement_takes, statement_again}

-- ---- what comes after a line

pub then_ok : {A B : Type 0} (line : ℕ) (r : Result A Fault) (f : A → Result B ScriptError) (x : A) → then_at line r done ≡ Ok x → then_at line r f ≡ f x
then_ok line (Ok y) f x e = let same : y ≡ x = cc in ap f same
then_ok line (Err d) f x e = absurd cc

pub then_refuses : {A B : Type 0} (line : ℕ) (r : Result A Fault) (f : A → Result B ScriptError) (e : ScriptError) → Refuses e (then_at line r done) → Refuses e (then_at line r f)
then_refuses line (Ok y) f error.Memory h = tt
then_refuses line (Ok y) f (error.Word l) h = absurd cc
then_refuses line (Ok y) f (error.Number l) h = absurd cc
then_refuses line (Ok y) f (error.Register l) h = absurd cc
then_refuses line (Ok y) f (error.Variable l) h = absurd cc
then_refuses line (Ok y) f (error.Shape l) h = absurd cc
then_refuses line (Ok y) f (error.Block l) h = absurd cc
then_refuses line (Ok y) f (error.Deep l) h = absurd cc
then_refuses line (Ok y) f error.Long h = absurd cc
then_refuses line (Ok y) f error.Empty h = absurd cc
then_refuses line (Err d) f error.Memory h = tt
then_refuses line (Err d) f (error.Word l) h = cc
then_refuses line (Err d) f (error.Number l) h = cc
then_refuses line (Err d) f (error.Register l) h = cc
then_refuses line (Err d) f (error.Variable l) h = cc
then_refuses line (Err d) f (error.Shape l) h = cc
then_refuses line (Err d) f (error.Block l) h = cc
then_refuses line (Err d) f (error.Deep l) h = cc
then_refuses line (Err d) f error.Long h = cc
then_refuses line (Err d) f error.Empty h = cc

then_is : {A B : Type 0} (line : ℕ) (r : Result A Fault) (f : A → Result B ScriptError) (y : B) → then_at line r f ≡ Ok y → (x : A) × (r ≡ Ok x) × (f x ≡ Ok y)
then_is line (Ok x) f y e = (x, refl, e)
then_is line (Err d) f y e = absurd cc

-- ---- blocks with other marks

abbrev pub parts : List Open → List Part
parts blocks = map (λ block. block.part) blocks

-- open blocks of the same kinds
pub record Alike (a b : List Open) : Type 0 where
  pub same : parts a ≡ parts b

-- a step on blocks of the same kinds, with other marks
abbrev Step : Result (List Open) Fault → List Open → Type 0
Step r a' = (b' : List Open) × (r ≡ Ok b') × Alike a' b'

begun_alike : (p : Part) (m k : ℕ) (a b a' : List Open) → Alike a b → begun p m a ≡ Ok a' → Step (begun p k b) a'
begun_alike p m k a b a' al e =
    let q = passed_or (nat_lt (length a) 16) fault.Deep (open_block p m ∷ a) a' e in
    let len : length a ≡ length b = sym (length-map a (λ (o : Open). o.part)) ∙ ap length al.same ∙ length-map b (λ (o : Open). o.part) in
    let test : nat_lt (length b) 16 ≡ true = subst (λ (n : ℕ). nat_lt n 16 ≡ true) len q.0 in
    (open_block p k ∷ b, rw test refl, record { same = ap parts (sym q.1) ∙ ap (λ (t : List Part). p ∷ t) al.same })

parted_alike : (a b a' : List Open) → Alike a b → parted a ≡ Ok a' → Step (parted b) a'
parted_alike [] b a' al e = absurd cc
parted_alike (x ∷ a) [] a' al e = let h = al.same in absurd cc
parted_alike (x ∷ a) (y ∷ b) a' al e = by_part x.part y.part refl refl where
  by_part : (p q : Part) → x.part ≡ p → y.part ≡ q → Step (parted (y ∷ b)) a'
  by_part part.Then part.Then i j =
      let f : parted_by part.Then x.mark a ≡ Ok a' = rw i at e in
      let made : open_block part.Otherwise x.mark ∷ a ≡ a' = ok_is _ a' f in
      let tail : parts a ≡ parts b = let h = al.same in cc in
      (open_block part.Otherwise y.mark ∷ b, rw j refl, record { same = ap parts (sym made) ∙ ap (λ (t : List Part). part.Otherwise ∷ t) tail })
  by_part part.Then part.Otherwise i j = let h = al.same in absurd cc
  by_part part.Then part.Turns i j = let h = al.same in absurd cc
  by_part part.Otherwise q i j = let f : parted_by part.Otherwise x.mark a ≡ Ok a' = rw i at e in absurd cc
  by_part part.Turns q i j = let f : parted_by part.Turns x.mark a ≡ Ok a' = rw i at e in absurd cc

ended_alike : (a b a' : List Open) → Alike a b → ended a ≡ Ok a' → Step (ended b) a'
ended_alike [] b a' al e = absurd cc
ended_alike (x ∷ a) [] a' al e = let h = al.same in absurd cc
ended_alike (x ∷ a) (y ∷ b) a' al e =
    let made : a ≡ a' = ok_is a a' e in
    let tail : parts a ≡ parts b = let h = al.same in cc in
    (b, refl, record { same = ap parts (sym made) ∙ tail })

kept_alike : (a b a' : List Open) → Alike a b → given a ≡ Ok a' → Step (Ok b) a'
kept_alike a b a' al e = (b, refl, record { same = ap parts (sym (ok_is a a' e)) ∙ al.same })

-- nesting goes by the kinds alone
pub nest_alike : (m k : ℕ) (s : Statement) (a b a' : List Open) → Alike a b → nest m a s ≡ Ok a' → Step (nest k b s) a'
unfolding nest
nest_alike m k (statement.If t) a b a' al e = begun_alike part.Then m k a b a' al e
nest_alike m k (statement.Repeat n) a b a' al e = begun_alike part.Turns m k a b a' al e
nest_alike m k statement.Else a b a' al e = parted_alike a b a' al e
nest_alike m k statement.End a b a' al e = ended_alike a b a' al e
nest_alike m k s a b a' al e = kept_alike a b a' al e

-- ---- what is read is spelled so

-- what lines add to what was read
record Added (limits : Limits) (wss : List (List (List ℕ))) (p q : Progress) (o : List Open) : Type 0 where
  more : List Statement
  statements : q.statements ≡ p.statements ++ more
  spelled : AllZip SpellsStatement (filter has_words wss) more
  each : AllByRecursion (IsStatement limits) more
  few : length q.statements ≤ 1024
  after : List Open
  nests : nested (length p.statements) o more ≡ Ok after
  alike : Alike q.blocks after

-- a statement that was put
record Put (n : ℕ) (p x : Progress) (s : Statement) : Type 0 where
  blocks : List Open
  nests : nest n p.blocks s ≡ Ok blocks
  room : length p.statements < 1024
  same : x ≡ record { statements = p.statements ++ s ∷ []; blocks = blocks }

placed_takes : (n : ℕ) (p x : Progress) (s : Statement) → placed n p s ≡ Ok x → Put n p x s
unfolding placed
placed_takes n p x s e =
    let b = bind_ok (nest n p.blocks s) (added p s) x e in
    let made : Progress = record { statements = p.statements ++ s ∷ []; blocks = b.0 } in
    let t = passed_or (nat_lt (length p.statements) 1024) fault.Long made x b.2 in
    record { blocks = b.0; nests = b.1; room = grind (arith, nat_tests, t.0); same = sym t.1 }

placed_again : (n : ℕ) (p : Progress) (s : Statement) (blocks : List Open) → nest n p.blocks s ≡ Ok blocks → length p.statements < 1024 → placed n p s ≡ Ok (record { statements = p.statements ++ s ∷ []; blocks = blocks })
unfolding placed
placed_again n p s blocks e room =
    let t : nat_lt (length p.statements) 1024 ≡ true = grind (arith, nat_tests) in
    rw (e, t) refl

sound : (limits : Limits) (wss : List (List (List ℕ))) (n : ℕ) (p q : Progress) (o : List Open) → Alike p.blocks o → length p.statements ≤ 1024 → lines_read limits n p wss ≡ Ok q → Added limits wss p q o
sound limits [] n p q o al few e =
    let same : p ≡ q = cc in
    record { more = []; statements = ap (λ (r : Progress). r.statements) (sym same) ∙ sym (append-nil p.statements); spelled = tt; each = tt; few = subst (λ (r : Progress). length r.statements ≤ 1024) same few; after = o; nests = refl; alike = subst (λ (r : Progress). Alike r.blocks o) same al }
sound limits ([] ∷ wss) n p q o al few e =
    let r = sound limits wss (next_line n) p q o al few e in
    record { more = r.more; statements = r.statements; spelled = r.spelled; each = r.each; few = r.few; after = r.after; nests = r.nests; alike = r.alike }
sound limits ((w ∷ ws) ∷ wss) n p q o al few e =
    let k = length p.statements in
    let t = then_is n (line_read limits n p (w ∷ ws)) (λ x. lines_read limits (next_line n) x wss) q e in
    let read = bind_ok (statement_of limits (w ∷ ws)) (placed n p) t.0 t.1 in
    let s = read.0 in
    let put = placed_takes n p t.0 s read.2 in
    let moved = nest_alike n k s p.blocks o put.blocks al put.nests in
    let next : Progress = record { statements = p.statements ++ s ∷ []; blocks = put.blocks } in
    let rest : lines_read limits (next_line n) next wss ≡ Ok q = subst (λ (x : Progress). lines_read limits (next_line n) x wss ≡ Ok q) put.same t.2 in
    let len : length (p.statements ++ s ∷ []) ≡ k + 1 = length-append p.statements (s ∷ []) in
    let room : length (p.statements ++ s ∷ []) ≤ 1024 = omega (arith, len, put.room) in
    let r = sound limits wss (next_line n) next q moved.0 moved.2 room rest in
    let word = statement_takes limits (w ∷ ws) s read.1 in
    let nests : nested (k + 1) moved.0 r.more ≡ Ok r.after = subst (λ (m : ℕ). nested m moved.0 r.more ≡ Ok r.after) len r.nests in
    record {
      more = s ∷ r.more;
      statements = r.statements ∙ append_assoc p.statements (s ∷ []) r.more;
      spelled = (word.0, r.spelled);
      each = (word.1, r.each);
      few = r.few;
      after = r.after;
      nests = rw moved.1 nests;
      alike = r.alike;
    }

-- ---- what is spelled so is read

-- what lines that spell statements are read as
record Made (limits : Limits) (wss : List (List (List ℕ))) (n : ℕ) (p : Progress) (more : List Statement) (after : List Open) : Type 0 where
  q : Progress
  is : lines_read limits n p wss ≡ Ok q
  statements : q.statements ≡ p.statements ++ more
  alike : Alike after q.blocks

complete : (limits : Limits) → AreLimits limits → (wss : List (List (List ℕ))) (n : ℕ) (p : Progress) (o after : List Open) (more : List Statement) → Alike o p.blocks → AllZip SpellsStatement (filter has_words wss) more → AllByRecursion (IsStatement limits) more → nested (length p.statements) o more ≡ Ok after → length p.statements + length more ≤ 1024 → Made limits wss n p more after
complete limits are [] n p o after [] al h each nests few = record { q = p; is = refl; statements = sym (append-nil p.statements); alike = subst (λ (b : List Open). Alike b p.blocks) (ok_is o after nests) al }
complete limits are [] n p o after (s ∷ more) al h each nests few = absurd h
complete limits are ([] ∷ wss) n p o after more al h each nests few =
    let r = complete limits are wss (next_line n) p o after more al h each nests few in
    record { q = r.q; is = r.is; statements = r.statements; alike = r.alike }
complete limits are ((w ∷ ws) ∷ wss) n p o after [] al h each nests few = absurd h
complete limits are ((w ∷ ws) ∷ wss) n p o after (s ∷ more) al h each nests few =
    let k = length p.statements in
    let step = bind_ok (nest k o s) (λ b. nested (k + 1) b more) after nests in
    let moved = nest_alike k n s o p.blocks step.0 al step.1 in
    let next : Progress = record { statements = p.statements ++ s ∷ []; blocks = moved.0 } in
    let room : k < 1024 = omega arith in
    let put = placed_again n p s moved.0 moved.1 room in
    let len : length (p.statements ++ s ∷ []) ≡ k + 1 = length-append p.statements (s ∷ []) in
    let rest : nested (length next.statements) step.0 more ≡ Ok after = subst (λ (m : ℕ). nested m step.0 more ≡ Ok after) (sym len) step.2 in
    let r = complete limits are wss (next_line n) next step.0 after more moved.2 h.1 each.1 rest (omega (arith, len)) in
    record {
      q = r.q;
      is = rw (statement_again limits are (w ∷ ws) s h.0 each.0, put) r.is;
      statements = r.statements ∙ append_assoc p.statements (s ∷ []) more;
      alike = r.alike;
    }

-- ---- whole texts

-- what ended well
record Finished (r : Result Progress ScriptError) (s : List Statement) : Type 0 where
  q : Progress
  is : r ≡ Ok q
  blocks : q.blocks ≡ []
  statements : q.statements ≡ s
  some : 0 < length s

finish_takes : (r : Result Progress ScriptError) (s : List Statement) → finish r ≡ Ok s → Finished r s
finish_takes (Err d) s e = absurd cc
finish_takes (Ok q) s e = by_parts q.blocks q.statements refl refl e where
  by_parts : (b : List Open) (t : List Statement) → q.blocks ≡ b → q.statements ≡ t → finished b t ≡ Ok s → Finished (Ok q) s
  by_parts (x ∷ b) t i j f = absurd cc
  by_parts [] [] i j f = absurd cc
  by_parts [] (x ∷ t) i j f =
      let same : x ∷ t ≡ s = cc in
      record { q = q; is = refl; blocks = i; statements = j ∙ same; some = subst (λ (l : List Statement). 0 < length l) same (omega arith) }

finished_again : (b : List Open) (s : List Statement) → Alike [] b → 0 < length s → finished b s ≡ Ok s
finished_again [] [] al some = absurd (omega arith)
finished_again [] (x ∷ s) al some = refl
finished_again (o ∷ b) s al some = let h = al.same in absurd cc

alike_none : (b : List Open) → Alike [] b → b ≡ []
alike_none [] al = refl
alike_none (o ∷ b) al = let h = al.same in absurd cc

-- what is read of a text is spelled by it
pub text_takes : (limits : Limits) (text : List ℕ) (s : List Statement) → script_of limits text ≡ Ok s → Spells limits text s
unfolding script_of
text_takes limits text s e =
    let f = finish_takes (lines_read limits 1 nothing_read (map words (lines text))) s e in
    let r = sound limits (map words (lines text)) 1 nothing_read f.q [] (record { same = refl }) (omega arith) f.is in
    let more_is : r.more ≡ s = sym r.statements ∙ f.statements in
    let none : r.after ≡ [] = alike_none r.after (subst (λ (b : List Open). Alike b r.after) f.blocks r.alike) in
    record {
      lines = subst (λ (l : List Statement). AllZip SpellsStatement (statement_lines text) l) more_is r.spelled;
      script = record {
        each = subst (λ (l : List Statement). AllByRecursion (IsStatement limits) l) more_is r.each;
        blocks = subst (λ (l : List Statement). nested 0 [] l ≡ Ok []) more_is (r.nests ∙ ap (λ (b : List Open). given b) none);
        some = f.some;
        few = subst (λ (l : List Statement). length l ≤ 1024) f.statements r.few;
      };
    }

-- what a text spells is read of it
pub text_again : (limits : Limits) → AreLimits limits → (text : List ℕ) (s : List Statement) → Spells limits text s → script_of limits text ≡ Ok s
unfolding script_of
text_again limits are text s h =
    let few : 0 + length s ≤ 1024 = let most = h.script.few in omega arith in
    let r = complete limits are (map words (lines text)) 1 nothing_read [] [] s (record { same = refl }) h.lines h.script.each h.script.blocks few in
    rw (r.is, r.statements) (finished_again r.q.blocks s r.alike h.script.some)

-- ---- a loop over the lines

abbrev pub is_newline : ℕ → Bool
is_newline x = x == 10

-- where a search finds the end of a line
pub end_found : (rest : List ℕ) (end : ℕ) → NoneBefore (Passes (is_byte 10) rest) 0 (length rest) end → Passes (is_byte 10) rest end → end ≡ position_or_len is_newline rest
end_found rest end before at =
    sym (position_or_len_is is_newline rest end 0 (omega (arith, before.high)) (λ k lt. false_from_ne_true _ (before.before k (omega arith) lt)) (λ _. at))

split_here : (rest : List ℕ) (end : ℕ) → end ≡ position_or_len is_newline rest → end < length rest → lines rest ≡ take end rest ∷ lines (drop (end + 1) rest)
split_here rest end e lt = rw e (slice_split_first is_newline rest 0 (omega arith))

-- a line that was read well
pub goes_on : (limits : Limits) (n end : ℕ) (p q : Progress) (rest here after : List ℕ) → end ≡ position_or_len is_newline rest → end < length rest → here ≡ take end rest → after ≡ drop (end + 1) rest → then_at n (line_read limits n p (words here)) done ≡ Ok q → lines_read limits n p (map words (lines rest)) ≡ lines_read limits (next_line n) q (map words (lines after))
goes_on limits n end p q rest here after e lt h a r =
    let cut : lines rest ≡ here ∷ lines after = rw (h, a) (split_here rest end e lt) in
    ap (λ (l : List (List ℕ)). lines_read limits n p (map words l)) cut ∙ then_ok n (line_read limits n p (words here)) (λ q. lines_read limits (next_line n) q (map words (lines after))) q r

-- a line with a fault
pub stops : (limits : Limits) (n end : ℕ) (p : Progress) (rest here : List ℕ) (f : ScriptError) → end ≡ position_or_len is_newline rest → end < length rest → here ≡ take end rest → Refuses f (then_at n (line_read limits n p (words here)) done) → Refuses f (lines_read limits n p (map words (lines rest)))
stops limits n end p rest here f e lt h r =
    let after = drop (end + 1) rest in
    let cut : lines rest ≡ here ∷ lines after = rw h (split_here rest end e lt) in
    subst (λ (l : List (List ℕ)). Refuses f (lines_read limits n p (map words l))) (sym cut) (then_refuses n (line_read limits n p (words here)) (λ q. lines_read limits (next_line n) q (map words (lines after))) f r)

-- the last line, which no newline ends
pub last_line : (limits : Limits) (n : ℕ) (p : Progress) (rest : List ℕ) → Nowhere (Passes (is_byte 10) rest) 0 (length rest) → lines_read limits n p (map words (lines rest)) ≡ then_at n (line_read limits n p (words rest)) done
last_line limits n p rest none =
    let plain = All-from_get_or (λ b. is_newline b ≡ false) rest 0 (λ k lt. false_from_ne_true _ (none k (omega arith) lt)) in
    ap (λ (l : List (List ℕ)). lines_read limits n p (map words l)) (slice_split_none is_newline rest plain)

-- ---- a script that was made

pub made_spelled : (limits : Limits) (text : List ℕ) (items : List Statement) (r : Result (List Statement) ScriptError) → MatchResult r (λ s. s ≡ items) (λ e. e ≡ error.Memory) → Spells limits text items → IfOk r (λ s. Spells limits text s)
made_spelled limits text items (Ok s) e h = subst (λ (t : List Statement). Spells limits text t) (sym e) h
made_spelled limits text items (Err d) e h = tt

pub made_gives : (items : List Statement) (r : Result (List Statement) ScriptError) (read : Result (List Statement) ScriptError) → MatchResult r (λ s. s ≡ items) (λ e. e ≡ error.Memory) → read ≡ Ok items → Gives (λ (found : List Statement). found) r read
made_gives items (Ok s) read e h = rw e h
made_gives items (Err d) read e h = rw e tt
