-- From what the parts of the program answer to what its top call answers.
use Rattle.std.proofs.Common.{◌≡◌, ℕ, ◌+◌, ◌-◌, ◌<◌, ◌≤◌, ◌⊎◌, inl, inr, List, [], ◌++◌, length, map, Option, Some, None, refl, sym, ap, ◌∙◌, subst, arith, append_assoc, length-append, String, Global}
use Rattle.std.specs.Prelude.{IfSome, string_bytes, suc}
use Rattle.std.proofs.lemmas.List.{append-nil}
use Rattle.hk_io.specs.Bytes.{ConsumesFront}
use Rattle.hk_io.specs.Limits.{longest_input}
use Rattle.hk_words.specs.declared.geometry.Geometry.{Geometry}
use Rattle.hk_words.specs.Geometry.{Sizes}
use Rattle.hk_words.proofs.OneGeometry.{one_geometry}
use Rattle.hk_core.specs.State.{State, opening}
use Rattle.hk_replay.specs.declared.judge.Verdict.{Verdict}
use Rattle.hk_replay.specs.declared.judge.Verdict.TheVariants as verdict
use Rattle.hk_replay.specs.declared.log_line.LogLine.{LogLine}
use Rattle.hk_replay.specs.declared.replayed.Replayed.{Replayed}
use Rattle.hk_replay.specs.declared.replayed.Replayed.TheVariants as replayed
use Rattle.hk_replay.specs.declared.tool.Form.{Form}
use Rattle.hk_replay.specs.declared.tool.Form.TheVariants as form
use Rattle.hk_replay.specs.declared.tool.Called.{Called}
use Rattle.hk_replay.specs.declared.tool.Called.TheVariants as owing
use Rattle.hk_replay.specs.Answers.{answered, core_after}
use Rattle.hk_replay.specs.Making.{action_drawn, after_action, text_if, made_lines, made_heading, made_geometry, made_log}
use Rattle.hk_replay.specs.Printing.{long_line, usage_line}
use Rattle.hk_replay.specs.Tool.{form_of, ended_by, CheckCallsFor, too_long, judged, FormCallsFor, CallsFor, HasText, Calls, CheckCalls, Tells, TellsCheck, IsMade, bytes_of}
use Rattle.hk_replay.proofs.OneVerdict.{one_check}

-- THE LOG THAT IS MADE

-- it is made from the heap that it says
pub made_is : (g : Geometry) → g.live ≡ 64 → g.alloc ≡ 64 → g.reserve ≡ 16 → g.high ≡ 2 → g.low ≡ 1 → g.board.refs ≡ 2 → g.board.nums ≡ 1 → g.registers ≡ 8 → g ≡ made_geometry
made_is g live alloc reserve high low refs nums registers =
    let s : Sizes = record { live = 64; alloc = 64; reserve = 16; high = 2; low = 1; refs = 2; nums = 1; registers = 8 } in
    one_geometry g made_geometry s
    (record { live = live; alloc = alloc; reserve = reserve; high = high; low = low; refs = refs; nums = nums; registers = registers })
    (record { live = refl; alloc = refl; reserve = refl; high = refl; low = refl; refs = refl; nums = refl; registers = refl })

pub made_first : (items : List ℕ) (c : State) (g : Geometry) (n : ℕ) → items ≡ made_heading → c ≡ opening g → g ≡ made_geometry → items ++ made_lines 20000 c n ≡ made_log n
unfolding made_log
made_first items c g n is at same = ap (λ (l : List ℕ). l ++ made_lines 20000 c n) is ∙ ap (λ (s : State). made_heading ++ made_lines 20000 s n) (at ∙ ap opening same)

made_next : (k : ℕ) (c : State) (x : ℕ) → made_lines (suc k) c x ≡ text_if (answered c (action_drawn c x)) ++ made_lines k (core_after c (action_drawn c x)) (after_action c x)
unfolding made_lines
made_next k c x = refl

made_none : (c : State) (x : ℕ) → made_lines 0 c x ≡ []
unfolding made_lines
made_none c x = refl

-- one more action
pub made_more : (log added : List ℕ) (count : ℕ) (c new : State) (x y n : ℕ) (o : Option LogLine) → count < 20000 → o ≡ answered c (action_drawn c x) → new ≡ core_after c (action_drawn c x) → y ≡ after_action c x
    → added ≡ log ++ text_if o → log ++ made_lines (20000 - count) c x ≡ made_log n → added ++ made_lines (20000 - (count + 1)) new y ≡ made_log n
made_more log added count c new x y n o few line state draws grown so_far =
    let left : 20000 - count ≡ suc (20000 - (count + 1)) = omega (arith, few) in
    let opened : log ++ made_lines (suc (20000 - (count + 1))) c x ≡ made_log n = subst (λ (k : ℕ). log ++ made_lines k c x ≡ made_log n) left so_far in
    rw (grown, line, state, draws) (step (20000 - (count + 1)) opened)
  where
    step : (k : ℕ) → log ++ made_lines (suc k) c x ≡ made_log n → (log ++ text_if (answered c (action_drawn c x))) ++ made_lines k (core_after c (action_drawn c x)) (after_action c x) ≡ made_log n
    step k h = append_assoc log (text_if (answered c (action_drawn c x))) (made_lines k (core_after c (action_drawn c x)) (after_action c x)) ∙ ap (λ (l : List ℕ). log ++ l) (sym (made_next k c x)) ∙ h

pub made_last : (log : List ℕ) (count : ℕ) (c : State) (x n : ℕ) → 20000 ≤ count → log ++ made_lines (20000 - count) c x ≡ made_log n → log ≡ made_log n
made_last log count c x n all so_far =
    let none : 20000 - count ≡ 0 = omega (arith, all) in
    sym (append-nil log) ∙ ap (λ (l : List ℕ). log ++ l) (sym (made_none c x)) ∙ subst (λ (k : ℕ). log ++ made_lines k c x ≡ made_log n) none so_far

-- WHAT IS CALLED FOR

-- the input is what a call that took equal bytes says
pub told_as : (input : Option (List ℕ)) (bytes slice : List ℕ) → slice ≡ bytes → IfSome input (λ left. bytes ≡ left) → IfSome input (λ left. slice ≡ left)
told_as input bytes slice same told = subst (λ b. IfSome input (λ left. b ≡ left)) (sym same) told

has_end : (v : Verdict) → HasText (ended_by v)
has_end (verdict.Whole n) = tt
has_end (verdict.Differs n) = tt
has_end (verdict.Log n) = tt

pub check_has_text : (bytes text : List ℕ) (ended : Replayed) → CheckCallsFor bytes ended text → HasText ended
check_has_text bytes text ended (too_long long is e) = subst HasText (sym is) tt
check_has_text bytes text ended (judged short said v is e) = subst HasText (sym is) (has_end said)

-- what was read of an input that is too long
pub long_input : (before after : Option (List ℕ)) → ConsumesFront before after (λ count. count ≡ longest_input + 1) → (text : List ℕ) → text ≡ long_line → CheckCalls before replayed.Log text
long_input None after front text is = let n = front.fits in record { bytes = front.front; told = tt; called = too_long (omega (arith, n)) refl is }
long_input (Some left) None front text is = absurd front.consumed
long_input (Some left) (Some rest) front text is =
    let e = ap length front.consumed ∙ length-append front.front rest in
    let n = front.fits in
    record { bytes = left; told = refl; called = too_long (omega (arith, e, n)) refl is }

-- some bytes, where the input isn't told
any_input : (input : Option (List ℕ)) → (bytes : List ℕ) × IfSome input (λ left. bytes ≡ left)
any_input None = ([], tt)
any_input (Some left) = (left, refl)

module _ (words : List (String Global)) (input : Option (List ℕ)) where
  as_form : (f : Option Form) (bytes text : List ℕ) (ended : Replayed) → form_of (map string_bytes words) ≡ f → FormCallsFor f bytes ended text → CallsFor words bytes ended text
  as_form f bytes text ended is h = subst (λ (k : Option Form). FormCallsFor k bytes ended text) (sym is) h

  pub tells_check : (called : Called) → form_of (map string_bytes words) ≡ Some form.Check → TellsCheck input called → Tells words input called
  tells_check (owing.Text ended text) is h = (h.0, record { bytes = h.1.bytes; told = h.1.told; called = as_form (Some form.Check) h.1.bytes (bytes_of text) ended is h.1.called })
  tells_check owing.Memory is h = tt
  tells_check owing.ReadFault is h = tt

  pub tells_make : (called : Called) (n : ℕ) → form_of (map string_bytes words) ≡ Some (form.Make n) → IsMade n called → Tells words input called
  tells_make (owing.Text ended text) n is h =
      let any = any_input input in
      (subst HasText (sym h.0) tt, record { bytes = any.0; told = any.1; called = as_form (Some (form.Make n)) any.0 (bytes_of text) ended is h })
  tells_make owing.Memory n is h = tt
  tells_make owing.ReadFault n is h = absurd h

  pub tells_usage : (text : List ℕ) → form_of (map string_bytes words) ≡ None → text ≡ usage_line → Calls words input replayed.Usage text
  tells_usage text is line = let any = any_input input in record { bytes = any.0; told = any.1; called = as_form None any.0 text replayed.Usage is (refl, line) }

-- ONE END

pub one_form : (f : Option Form) (bytes t u : List ℕ) (a b : Replayed) → FormCallsFor f bytes a t → FormCallsFor f bytes b u → a ≡ b
one_form None bytes t u a b h i = h.0 ∙ sym i.0
one_form (Some form.Check) bytes t u a b h i = one_check bytes t u a b h i
one_form (Some (form.Make n)) bytes t u a b h i = h.0 ∙ sym i.0

-- where nothing fails, the end is the one that is called for
pub complete : (words : List (String Global)) (input : Option (List ℕ)) (owed ended : Replayed) (text : List ℕ) → Calls words input owed text → (ended ≡ owed) ⊎ (ended ≡ replayed.WriteFault) → (ended ≡ replayed.WriteFault → ⊥)
    → IfSome input (λ bytes. (other : Replayed) (u : List ℕ) → CallsFor words bytes other u → (ended ≡ other) ⊎ (ended ≡ replayed.Memory))
complete words None owed ended text calls ends none = tt
complete words (Some left) owed ended text calls (inr fault) none = absurd (none fault)
complete words (Some left) owed ended text calls (inl is) none = λ other u called.
    inl (is ∙ one_form (form_of (map string_bytes words)) left text u owed other (subst (λ (b : List ℕ). CallsFor words b owed text) calls.told calls.called) called)
