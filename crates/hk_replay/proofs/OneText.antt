-- Words and bytes call for one end of the program, and for one text.
use Rattle.std.proofs.Common.{◌≡◌, ℕ, List, map, Option, Some, None, sym, ◌∙◌, String, Global}
use Rattle.std.specs.Prelude.{string_bytes}
use Rattle.hk_replay.specs.declared.replayed.Replayed.{Replayed}
use Rattle.hk_replay.specs.declared.tool.Form.{Form}
use Rattle.hk_replay.specs.declared.tool.Form.TheVariants as form
use Rattle.hk_replay.specs.Tool.{form_of, FormCallsFor, CallsFor}
use Rattle.hk_replay.proofs.OneVerdict.{one_line_written}
use Rattle.hk_replay.proofs.ToolLemmas.{one_form}

same_text : (f : Option Form) (bytes t u : List ℕ) (a b : Replayed) → FormCallsFor f bytes a t → FormCallsFor f bytes b u → t ≡ u
same_text None bytes t u a b h i = h.1 ∙ sym i.1
same_text (Some form.Check) bytes t u a b h i = one_line_written bytes t u a b h i
same_text (Some (form.Make n)) bytes t u a b h i = h.1 ∙ sym i.1

pub one_end : (words : List (String Global)) (bytes : List ℕ) (one other : Replayed) (text text' : List ℕ) → CallsFor words bytes one text → CallsFor words bytes other text' → one ≡ other
one_end words bytes one other text text' h i = one_form (form_of (map string_bytes words)) bytes text text' one other h i

pub one_text : (words : List (String Global)) (bytes : List ℕ) (one other : Replayed) (text text' : List ℕ) → CallsFor words bytes one text → CallsFor words bytes other text' → text ≡ text'
one_text words bytes one other text text' h i = same_text (form_of (map string_bytes words)) bytes text text' one other h i
