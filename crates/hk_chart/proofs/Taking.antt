-- Bytes that are taken one after another.
use Rattle.std.proofs.Common.{◌≡◌, ℕ, zero, suc, ◌+◌, ◌<◌, List, [], ◌∷◌, ◌++◌, length, drop, get_or, Option, Some, None, Result, Ok, Err, refl, ap, ◌∙◌, subst, arith, append_assoc}
use Rattle.std.specs.Prelude.{IfOk}
use Rattle.std.proofs.KnownBytes.{Consumes-trans}
use Rattle.std.specs.Io.KnownBytes.{Consumes, IsAtEnd}
use Rattle.hk_chart.specs.declared.chart.Chart.{Chart}
use Rattle.hk_chart.specs.declared.reader.Reader.{Reader}
use Rattle.hk_chart.specs.declared.reader.ReadFault.{ReadFault}
use Rattle.hk_chart.specs.declared.reader.ReadFault.TheVariants as fault
use Rattle.hk_chart.specs.declared.reader.Stop.{Stop}
use Rattle.hk_chart.specs.declared.reader.Stop.TheVariants as stop
use Rattle.hk_chart.specs.declared.window.Window.{Window}
use Rattle.hk_chart.specs.Reading.{opening_reader, after_byte, at_end, read_on, IsAnswer, HasTaken, HasRead}

drop_step : (xs : List ℕ) (i : ℕ) (d : ℕ) → i < length xs → drop i xs ≡ get_or xs i d ∷ drop (suc i) xs
drop_step [] i d within = absurd (omega (arith, within))
drop_step (x ∷ xs) zero d within = refl
drop_step (x ∷ xs) (suc i) d within = drop_step xs i d (omega (arith, within))

drop_next : (xs : List ℕ) (i : ℕ) (d : ℕ) → i < length xs → drop i xs ≡ get_or xs i d ∷ drop (i + 1) xs
drop_next xs i d within = let e : suc i ≡ i + 1 = omega arith in subst (λ (k : ℕ). drop i xs ≡ get_or xs i d ∷ drop k xs) e (drop_step xs i d within)

-- why there is no picture, in what the reader answers
stop_of : Result Chart ReadFault → Stop
stop_of (Err (fault.Stop why)) = why
stop_of other = stop.Long

pub same_stop : (a b : Stop) → ◌≡◌ {A = Result Chart ReadFault} (Err (fault.Stop a)) (Err (fault.Stop b)) → a ≡ b
unfolding stop_of
same_stop a b is = ap stop_of is

-- what a part answered
pub went_on : (answer : Result Reader Stop) (after : Reader) (o : Option Stop) → IsAnswer answer after o → o ≡ None → answer ≡ Ok after
went_on answer after o h is = subst (IsAnswer answer after) is h

pub came_to_stop : (answer : Result Reader Stop) (after : Reader) (o : Option Stop) (why : Stop) → IsAnswer answer after o → o ≡ Some why → answer ≡ Err why
came_to_stop answer after o why h is = subst (IsAnswer answer after) is h

module _ (w : Window) where
  goes_on : (r next : Reader) (byte : ℕ) (bytes : List ℕ) → after_byte w r byte ≡ Ok next → read_on w r (byte ∷ bytes) ≡ read_on w next bytes
  unfolding read_on
  goes_on r next byte bytes is = rw is refl

  stops : (r : Reader) (why : Stop) (byte : ℕ) (bytes : List ℕ) → after_byte w r byte ≡ Err why → read_on w r (byte ∷ bytes) ≡ Err why
  unfolding read_on
  stops r why byte bytes is = rw is refl

  ends : (r : Reader) → read_on w r [] ≡ at_end r
  unfolding read_on
  ends r = refl

  module _ (first r : Reader) (piece : List ℕ) (i : ℕ) (within : i < length piece)
      (so_far : (rest : List ℕ) → read_on w first (piece ++ rest) ≡ read_on w r (drop i piece ++ rest)) where
    at_byte : (rest : List ℕ) → read_on w first (piece ++ rest) ≡ read_on w r (get_or piece i 0 ∷ (drop (i + 1) piece ++ rest))
    at_byte rest = so_far rest ∙ ap (λ (l : List ℕ). read_on w r (l ++ rest)) (drop_next piece i 0 within)

    -- one more byte
    pub one_more : (next : Reader) → after_byte w r (get_or piece i 0) ≡ Ok next → (rest : List ℕ) → read_on w first (piece ++ rest) ≡ read_on w next (drop (i + 1) piece ++ rest)
    one_more next taken rest = at_byte rest ∙ goes_on r next (get_or piece i 0) (drop (i + 1) piece ++ rest) taken

    -- the last one
    pub stopped : (why : Stop) → after_byte w r (get_or piece i 0) ≡ Err why → (rest : List ℕ) → read_on w first (piece ++ rest) ≡ Err why
    stopped why at rest = at_byte rest ∙ stops r why (get_or piece i 0) (drop (i + 1) piece ++ rest) at

  -- what was read so far
  pub record Comes (before now : Option (List ℕ)) (r : Reader) : Type 0 where
    pub front : List ℕ
    pub consumed : Consumes before now front
    pub goes : (rest : List ℕ) → read_on w opening_reader (front ++ rest) ≡ read_on w r rest

  pub comes_more : (before mid now : Option (List ℕ)) (r next : Reader) (piece : List ℕ) → Comes before mid r → Consumes mid now piece → HasTaken w r piece next None → Comes before now next
  comes_more before mid now r next piece so_far more taken = record {
    front = so_far.front ++ piece;
    consumed = Consumes-trans before mid now so_far.front piece so_far.consumed more;
    goes = λ rest. ap (read_on w opening_reader) (append_assoc so_far.front piece rest) ∙ so_far.goes (piece ++ rest) ∙ taken rest;
  }

  pub comes_end : (before mid now : Option (List ℕ)) (r : Reader) (piece : List ℕ) (answer : Result Chart Stop) → Comes before mid r → Consumes mid now piece → piece ≡ [] → IsAtEnd now → at_end r ≡ answer → HasRead w before answer
  comes_end None mid now r piece answer so_far more none over is =
      record { bytes = so_far.front ++ []; told = tt; comes = so_far.goes [] ∙ ends r ∙ is }
  comes_end (Some left) None now r piece answer so_far more none over is = absurd so_far.consumed
  comes_end (Some left) (Some rest) None r piece answer so_far more none over is = absurd more
  comes_end (Some left) (Some rest) (Some last) r piece answer so_far more none over is =
      let gone : rest ≡ [] = more ∙ ap (λ (l : List ℕ). l ++ last) none ∙ over in
      record { bytes = left; told = refl; comes = ap (read_on w opening_reader) (so_far.consumed ∙ ap (λ (l : List ℕ). so_far.front ++ l) gone) ∙ so_far.goes [] ∙ ends r ∙ is }

  pub comes_stop : (before mid now : Option (List ℕ)) (r next : Reader) (piece : List ℕ) (why : Stop) → Comes before mid r → Consumes mid now piece → HasTaken w r piece next (Some why) → HasRead w before (Err why)
  comes_stop None mid now r next piece why so_far more taken =
      record { bytes = so_far.front ++ (piece ++ []); told = tt; comes = so_far.goes (piece ++ []) ∙ taken [] }
  comes_stop (Some left) None now r next piece why so_far more taken = absurd so_far.consumed
  comes_stop (Some left) (Some rest) None r next piece why so_far more taken = absurd more
  comes_stop (Some left) (Some rest) (Some last) r next piece why so_far more taken =
      record { bytes = left; told = refl; comes = ap (read_on w opening_reader) (so_far.consumed ∙ ap (λ (l : List ℕ). so_far.front ++ l) more) ∙ so_far.goes (piece ++ last) ∙ taken last }

  -- what the end of the input came to
  pub drawn_if : (before mid now : Option (List ℕ)) (r : Reader) (piece : List ℕ) (ended : Result Chart ReadFault) → Comes before mid r → Consumes mid now piece → piece ≡ [] → IsAtEnd now
      → IfOk ended (λ chart. at_end r ≡ Ok chart) → IfOk ended (λ chart. HasRead w before (Ok chart))
  drawn_if before mid now r piece (Ok chart) so_far more none over is = comes_end before mid now r piece (Ok chart) so_far more none over is
  drawn_if before mid now r piece (Err why) so_far more none over is = tt
