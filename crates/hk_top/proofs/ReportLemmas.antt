-- The texts of the elements that the loops of the report go over.
use Rattle.std.proofs.Common.{◌≡◌, ℕ, ◌<◌, ◌≤◌, List, length, zip, get_or, sym, ap, ◌∙◌, arith}
use Rattle.std.proofs.lemmas.Slice.Zip.{get_or-zip, length-zip}
use Rattle.hk_sheet.specs.declared.sheet.High.{High}
use Rattle.hk_sheet.specs.declared.sheet.Low.{Low}
use Rattle.hk_top.specs.Report.{line_of_response, line_of_low}
use Rattle.hk_top.specs.Text.{high_line, low_line}

-- two lists of the same length side by side
pub zip_length : {A B : Type 0} (xs : List A) (ys : List B) → length ys ≡ length xs → length (zip xs ys) ≡ length xs
zip_length xs ys same = let z = length-zip xs ys in omega (arith, z, same)

pub response_at : (tasks : List High) (responses : List ℕ) (i : ℕ) (d : High) (r : ℕ) (text : List ℕ) → i < length tasks → i < length responses
    → text ≡ high_line (get_or tasks i d).name (get_or responses i r) (get_or tasks i d).timing.deadline → text ≡ line_of_response (get_or (zip tasks responses) i (d, r))
response_at tasks responses i d r text within within_too is = is ∙ sym (ap line_of_response (get_or-zip tasks responses i (d, r) within within_too))

-- the line that was made is that of the place
pub response_text : (tasks : List High) (responses : List ℕ) (i : ℕ) (h : High) (r : ℕ) (name text : List ℕ) → i < length tasks → length responses ≡ length tasks
    → h ≡ get_or tasks i h → name ≡ h.name → text ≡ high_line name (get_or responses i r) h.timing.deadline → text ≡ line_of_response (get_or (zip tasks responses) i (h, r))
response_text tasks responses i h r name text within same is_h is_name is =
    response_at tasks responses i h r text within (omega (arith, within, same))
    (is ∙ ap (λ n. high_line n (get_or responses i r) h.timing.deadline) is_name ∙ ap (λ t. high_line t.name (get_or responses i r) t.timing.deadline) is_h)

pub low_text : (tasks : List Low) (i : ℕ) (h : Low) (name text : List ℕ) → h ≡ get_or tasks i h → name ≡ h.name → text ≡ low_line name → text ≡ line_of_low (get_or tasks i h)
low_text tasks i h name text is_h is_name is = is ∙ ap low_line is_name ∙ ap line_of_low is_h

pub zip_within : {A B : Type 0} (xs : List A) (ys : List B) (i : ℕ) → length ys ≡ length xs → i < length xs → i < length (zip xs ys)
zip_within xs ys i same within = let z = zip_length xs ys same in omega (arith, z, within)

pub zip_past : {A B : Type 0} (xs : List A) (ys : List B) (i : ℕ) → length ys ≡ length xs → length xs ≤ i → length (zip xs ys) ≤ i
zip_past xs ys i same past = let z = zip_length xs ys same in omega (arith, z, past)
