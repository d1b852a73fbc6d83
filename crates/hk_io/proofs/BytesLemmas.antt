-- How calls that move told bytes follow one another.
use Rattle.std.proofs.Common.{◌≡◌, ℕ, ◌+◌, ◌-◌, ◌<◌, ◌≤◌, min, List, [], ◌++◌, length, take, drop, Option, refl, sym, ap, ◌∙◌, subst, arith, append-nil, take-append-drop, length-append, length-drop}
use Rattle.std.proofs.Math.Seq.{take-add}
use Rattle.std.proofs.lemmas.List.{length-take-le, take_rest, drop-drop, take-append-le, drop-append-le, take_min, drop_min, take_at, drop_at, drop_all, nil_from_length}
use Rattle.std.proofs.KnownBytes.{Appends-nil, Appends-trans, Appends-kept}
use Rattle.std.specs.Io.KnownBytes.{Appends, Keeps}
use Rattle.hk_io.specs.Bytes.{AppendsPrefix, AppendsFront}

-- nothing was taken yet, and all waits
pub AppendsFront-none : (known : Option (List ℕ)) (bytes : List ℕ) → AppendsFront known known bytes bytes
AppendsFront-none known bytes = record { count = 0; taken = Appends-nil known; waits = refl }

-- of what waits, some more was taken
pub AppendsFront-more : (a b c : Option (List ℕ)) (bytes rest : List ℕ) (n : ℕ) → AppendsFront a b bytes rest → Appends b c (take n rest) → AppendsFront a c bytes (drop n rest)
AppendsFront-more a b c bytes rest n front more =
    let same : take front.count bytes ++ take n rest ≡ take (front.count + n) bytes = ap (λ w. take front.count bytes ++ take n w) front.waits ∙ sym (take-add front.count n bytes) in
    record {
      count = front.count + n;
      taken = subst (Appends a c) same (Appends-trans a b c _ _ front.taken more);
      waits = ap (drop n) front.waits ∙ drop-drop n front.count bytes;
    }

-- all that waits was taken
pub Appends-all : (a b c : Option (List ℕ)) (bytes rest : List ℕ) → AppendsFront a b bytes rest → Appends b c rest → Appends a c bytes
Appends-all a b c bytes rest front more =
    let same : take front.count bytes ++ rest ≡ bytes = ap (λ w. take front.count bytes ++ w) front.waits ∙ take-append-drop front.count bytes in
    subst (Appends a c) same (Appends-trans a b c _ _ front.taken more)

-- nothing waits
pub Appends-whole : (a b : Option (List ℕ)) (bytes rest : List ℕ) → AppendsFront a b bytes rest → length rest ≡ 0 → Appends a b bytes
Appends-whole a b bytes rest front none =
    Appends-all a b b bytes rest front (subst (Appends b b) (sym (nil_from_length rest none)) (Appends-nil b))

-- some of what waits, and of what came behind it, was taken
pub AppendsPrefix-behind : (a b c : Option (List ℕ)) (text waiting bytes : List ℕ) → AppendsFront a b text waiting → AppendsPrefix b c (waiting ++ bytes) → AppendsPrefix a c (text ++ bytes)
AppendsPrefix-behind a b c text waiting bytes front more =
    let n = min front.count (length text) in
    let rest : waiting ++ bytes ≡ drop n (text ++ bytes) =
    ap (λ w. w ++ bytes) (front.waits ∙ sym (drop_min front.count text)) ∙ sym (drop-append-le n text bytes (omega arith)) in
    let first : take front.count text ≡ take n (text ++ bytes) =
    sym (take_min front.count text) ∙ sym (take-append-le n text bytes (omega arith)) in
    let same : take front.count text ++ take more.count (waiting ++ bytes) ≡ take (n + more.count) (text ++ bytes) =
    ap (λ w. w ++ take more.count (waiting ++ bytes)) first
    ∙ ap (λ w. take n (text ++ bytes) ++ take more.count w) rest
    ∙ sym (take-add n more.count (text ++ bytes)) in
    record { count = n + more.count; taken = subst (Appends a c) same (Appends-trans a b c _ _ front.taken more.taken) }

-- some of what waits was taken
pub AppendsPrefix-rest : (a b c : Option (List ℕ)) (text waiting : List ℕ) → AppendsFront a b text waiting → AppendsPrefix b c waiting → AppendsPrefix a c text
AppendsPrefix-rest a b c text waiting front more =
    subst (AppendsPrefix a c) (append-nil text)
    (AppendsPrefix-behind a b c text waiting [] front (subst (AppendsPrefix b c) (sym (append-nil waiting)) more))

-- bytes were added behind what waits, and of both some was taken
pub AppendsFront-trans : (a b c : Option (List ℕ)) (text waiting bytes rest : List ℕ) → AppendsFront a b text waiting → AppendsFront b c (waiting ++ bytes) rest → AppendsFront a c (text ++ bytes) rest
AppendsFront-trans a b c text waiting bytes rest front more =
    let n = min front.count (length text) in
    let all : waiting ++ bytes ≡ drop n (text ++ bytes) =
    ap (λ w. w ++ bytes) (front.waits ∙ sym (drop_min front.count text)) ∙ sym (drop-append-le n text bytes (omega arith)) in
    let first : take front.count text ≡ take n (text ++ bytes) =
    sym (take_min front.count text) ∙ sym (take-append-le n text bytes (omega arith)) in
    let same : take front.count text ++ take more.count (waiting ++ bytes) ≡ take (n + more.count) (text ++ bytes) =
    ap (λ w. w ++ take more.count (waiting ++ bytes)) first
    ∙ ap (λ w. take n (text ++ bytes) ++ take more.count w) all
    ∙ sym (take-add n more.count (text ++ bytes)) in
    record {
      count = n + more.count;
      taken = subst (Appends a c) same (Appends-trans a b c _ _ front.taken more.taken);
      waits = more.waits ∙ ap (drop more.count) all ∙ drop-drop more.count n (text ++ bytes);
    }

-- a call failed that took nothing
pub AppendsPrefix-kept : (a b c : Option (List ℕ)) (bytes rest : List ℕ) → AppendsFront a b bytes rest → Keeps b c → AppendsPrefix a c bytes
AppendsPrefix-kept a b c bytes rest front kept = record { count = front.count; taken = Appends-kept a b c _ front.taken kept }

-- what is a first part of some bytes is one of these with more behind them
pub AppendsPrefix-append : (a b : Option (List ℕ)) (bytes more : List ℕ) → AppendsPrefix a b bytes → AppendsPrefix a b (bytes ++ more)
AppendsPrefix-append a b bytes more prefix =
    let n = min prefix.count (length bytes) in
    let same : take prefix.count bytes ≡ take n (bytes ++ more) =
    sym (take_min prefix.count bytes) ∙ sym (take-append-le n bytes more (omega arith)) in
    record { count = n; taken = subst (Appends a b) same prefix.taken }

-- what waited was taken, and what came behind it waits
pub AppendsFront-behind : (a b : Option (List ℕ)) (waited bytes : List ℕ) → Appends a b waited → AppendsFront a b (waited ++ bytes) bytes
AppendsFront-behind a b waited bytes all = record {
  count = length waited;
  taken = subst (Appends a b) (sym (take_at waited bytes _ refl)) all;
  waits = sym (drop_at waited bytes _ refl);
}

-- what waited was taken, and nothing waits
pub AppendsFront-all : (a b : Option (List ℕ)) (waited rest : List ℕ) → rest ≡ [] → Appends a b waited → AppendsFront a b waited rest
AppendsFront-all a b waited rest none all =
    let whole = subst (λ x. AppendsFront a b x []) (append-nil waited) (AppendsFront-behind a b waited [] all) in
    subst (AppendsFront a b waited) (sym none) whole

-- so many bytes more
pub length-more : (bytes piece : List ℕ) (n : ℕ) → n ≤ length piece → length (bytes ++ take n piece) ≡ length bytes + n
length-more bytes piece n within = omega (arith, length-append bytes (take n piece), length-take-le n piece within)

-- a piece was copied from a place of the bytes into the front of a buffer, as long as both allow
pub read-front : (bytes buf piece : List ℕ) (at n : ℕ) → piece ≡ take (at + n - at) (drop at bytes) → n ≡ min (length buf) (length bytes - at)
    → (drop at bytes ≡ take n (piece ++ drop n buf) ++ drop (at + n) bytes) × (n ≡ 0 → 0 < length (piece ++ drop n buf) → drop (at + n) bytes ≡ [])
read-front bytes buf piece at n copied count =
    let plain : at + n - at ≡ n = omega arith in
    let first : piece ≡ take n (drop at bytes) = copied ∙ ap (λ k. take k (drop at bytes)) plain in
    let size : length piece ≡ n = ap length first ∙ length-take-le n (drop at bytes) (omega (arith, length-drop at bytes)) in
    let whole : take n (piece ++ drop n buf) ++ drop (at + n) bytes ≡ drop at bytes =
    ap (λ w. w ++ drop (at + n) bytes) (take_at piece (drop n buf) n size ∙ first)
    ∙ ap (λ w. take n (drop at bytes) ++ w) (sym (drop-drop n at bytes))
    ∙ take-append-drop n (drop at bytes) in
    (sym whole, λ none some. drop_all (at + n) bytes (omega (arith, length-append piece (drop n buf), length-drop n buf)))

-- the same, of a slice's rest
pub AppendsFront-rest : (a b c : Option (List ℕ)) (bytes rest : List ℕ) (n : ℕ) → AppendsFront a b bytes rest → Appends b c (take n rest)
    → AppendsFront a c bytes (take (length rest - n) (drop n rest))
AppendsFront-rest a b c bytes rest n front more =
    subst (AppendsFront a c bytes) (sym (take_rest rest n)) (AppendsFront-more a b c bytes rest n front more)

-- how calls of `Sink::write` follow one another
pub ruleset written = (AppendsFront-none, AppendsFront-rest, Appends-whole, AppendsPrefix-kept)

-- how calls of `Gather` follow one another
pub ruleset gathered = (AppendsFront-none, AppendsFront-behind, AppendsFront-all, AppendsFront-trans, Appends-all, AppendsPrefix-behind, AppendsPrefix-rest, AppendsPrefix-append)
