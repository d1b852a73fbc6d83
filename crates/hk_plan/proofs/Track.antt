-- How a plan keeps track of its rows.
use Rattle.std.proofs.Common.{◌≡◌, ℕ, ◌+◌, ◌-◌, ◌<◌, ◌≤◌, ◌↔◌, List, Option, Some, None, MatchOption, IsNone, All, length, replicate, get_or, set, slice_index, refl, sym, ap, ◌∙◌, subst, arith, inl, inr, get_or-set_same, get_or-set_other}
use Rattle.std.proofs.lemmas.List.{length-set, length-replicate, get_or-replicate, get_or_read}
use Rattle.std.proofs.lemmas.List.Elements.{All-get_or}
use Rattle.std.proofs.lemmas.Bool.{cases_eq, true≢false}
use Rattle.hk_plan.specs.declared.Row.{Row}
use Rattle.hk_plan.specs.Alone.{ticks_of, chosen, tick_for, had_after, row_at, EndsAt, TakesTicks, no_row}
use Rattle.hk_plan.specs.Kept.{KeepsTrack}
use Rattle.hk_plan.proofs.Chosen.{chosen_below_agrees}
use Rattle.hk_plan.proofs.Had.{had_none, had_next, had-le-had, tick_for_same, tick_for_other, tick_for_nobody, gets_first}

-- before the first tick
pub track_none : (rows : List Row) → All TakesTicks rows → KeepsTrack rows (replicate (length rows) 0) (replicate (length rows) None) 0
track_none rows some = record {
  had_length = length-replicate (length rows) 0;
  finish_length = length-replicate (length rows) None;
  had_is = λ k below. get_or-replicate (length rows) k 0 0 below ∙ sym (had_none rows k);
  finish_is = λ k below.
      let P : Option ℕ → Type 0 = λ o. MatchOption o (had_after rows 0 k < ticks_of rows k) (λ e. EndsAt rows k e × (e ≤ 0)) in
      let less : had_after rows 0 k < ticks_of rows k = omega (arith, had_none rows k, All-get_or TakesTicks rows k no_row below some) in
      subst P (sym (get_or-replicate (length rows) k None None below)) less;
}

pub track_open : (rows copied : List Row) (had : List ℕ) (finish : List (Option ℕ)) → All TakesTicks rows
    → copied ≡ rows → had ≡ replicate (length rows) 0 → finish ≡ replicate (length rows) None → KeepsTrack copied had finish 0
track_open rows copied had finish some e f g = rw (e, f, g) (track_none rows some)

-- the row that goes first by what the plan keeps is the one that gets the tick
pub track_chosen : (rows : List Row) (had : List ℕ) (finish : List (Option ℕ)) (given : ℕ) → KeepsTrack rows had finish given → chosen rows (slice_index had) given ≡ row_at rows given
track_chosen rows had finish given kept = chosen_below_agrees rows (slice_index had) (had_after rows given) given (length rows) kept.had_is

pub choice_at : (rows read : List Row) (had had_read : List ℕ) (finish : List (Option ℕ)) (given : ℕ) (o : Option ℕ) → KeepsTrack rows had finish given
    → read ≡ rows → had_read ≡ had → o ≡ chosen read (slice_index had_read) given → o ≡ row_at rows given
choice_at rows read had had_read finish given o kept e f choice =
    let P : List Row → Type 0 = λ xs. o ≡ chosen xs (slice_index had_read) given in
    let Q : List ℕ → Type 0 = λ hs. o ≡ chosen rows (slice_index hs) given in
    subst Q f (subst P e choice) ∙ track_chosen rows had finish given kept

-- an ended row isn't unended
pub finish_none : (rows : List Row) (given k : ℕ) (o : Option ℕ) → MatchOption o (had_after rows given k < ticks_of rows k) (λ e. EndsAt rows k e × (e ≤ given))
    → IsNone o ↔ (had_after rows given k < ticks_of rows k)
finish_none rows given k None less = (λ _. less, λ _. refl)
finish_none rows given k (Some e) ended =
    (λ none. absurd (true≢false none), λ less. absurd (omega (arith, ended.0.whole, had-le-had rows e given k ended.1)))

pub finish_none_at : (rows : List Row) (had : List ℕ) (finish : List (Option ℕ)) (given k : ℕ) (o : Option ℕ) → KeepsTrack rows had finish given
    → k < length rows → o ≡ get_or finish k o → IsNone o ↔ (had_after rows given k < ticks_of rows k)
finish_none_at rows had finish given k o kept within e =
    let P : Option ℕ → Type 0 = λ p. MatchOption p (had_after rows given k < ticks_of rows k) (λ e. EndsAt rows k e × (e ≤ given)) in
    let in_finish : k < length finish = omega (arith, kept.finish_length) in
    finish_none rows given k o (subst P (sym (get_or_read finish k o in_finish e None)) (kept.finish_is k within))

-- what is kept of a row that the tick doesn't go to
other_finish : (rows : List Row) (given k : ℕ) (o : Option ℕ) → had_after rows (given + 1) k ≡ had_after rows given k
    → MatchOption o (had_after rows given k < ticks_of rows k) (λ e. EndsAt rows k e × (e ≤ given))
    → MatchOption o (had_after rows (given + 1) k < ticks_of rows k) (λ e. EndsAt rows k e × (e ≤ given + 1))
other_finish rows given k None same less = omega arith
other_finish rows given k (Some e) same ended = (ended.0, omega (arith, ended.1))

-- what is kept of the row that the tick goes to, where it isn't its last
own_finish : (rows : List Row) (given k : ℕ) (o : Option ℕ) → had_after rows given k < ticks_of rows k → had_after rows (given + 1) k < ticks_of rows k
    → MatchOption o (had_after rows given k < ticks_of rows k) (λ e. EndsAt rows k e × (e ≤ given))
    → MatchOption o (had_after rows (given + 1) k < ticks_of rows k) (λ e. EndsAt rows k e × (e ≤ given + 1))
own_finish rows given k None unended more less = more
own_finish rows given k (Some e) unended more ended = absurd (omega (arith, ended.0.whole, had-le-had rows e given k ended.1))

-- a tick that goes to nobody
pub track_idle : (rows : List Row) (had : List ℕ) (finish : List (Option ℕ)) (given : ℕ) → KeepsTrack rows had finish given
    → row_at rows given ≡ None → KeepsTrack rows had finish (given + 1)
track_idle rows had finish given kept idle =
    let same : (k : ℕ) → had_after rows (given + 1) k ≡ had_after rows given k =
    λ k. (omega (arith, had_next rows given k, tick_for_nobody (row_at rows given) k idle)) in
    record {
      had_length = kept.had_length;
      finish_length = kept.finish_length;
      had_is = λ k below. kept.had_is k below ∙ sym (same k);
      finish_is = λ k below. other_finish rows given k (get_or finish k None) (same k) (kept.finish_is k below);
    }

-- the ticks after one that goes to a row
had_set : (rows : List Row) (had : List ℕ) (finish : List (Option ℕ)) (given k j : ℕ) → KeepsTrack rows had finish given
    → row_at rows given ≡ Some k → k < length rows → j < length rows → get_or (set had k (get_or had k 0 + 1)) j 0 ≡ had_after rows (given + 1) j
had_set rows had finish given k j kept mine within below =
    elim (cases_eq j k) [
      | inl same ↦
          let P : ℕ → Type 0 = λ i. get_or (set had k (get_or had k 0 + 1)) i 0 ≡ had_after rows (given + 1) i in
          let in_had : k < length had = omega (arith, kept.had_length) in
          subst P (sym same) (rw get_or-set_same
          (omega (arith, had_next rows given k, tick_for_same (row_at rows given) k mine, kept.had_is k within)))
      | inr other ↦
          let apart : k ≡ j → ⊥ = λ e. other (sym e) in
          rw get_or-set_other (omega (arith, had_next rows given j, tick_for_other (row_at rows given) k j mine apart, kept.had_is j below))
    ]

-- a tick that goes to a row and isn't its last
pub track_more : (rows : List Row) (had : List ℕ) (finish : List (Option ℕ)) (given k : ℕ) → KeepsTrack rows had finish given
    → row_at rows given ≡ Some k → k < length rows → (get_or had k 0 + 1 ≡ ticks_of rows k → ⊥)
    → KeepsTrack rows (set had k (get_or had k 0 + 1)) finish (given + 1)
track_more rows had finish given k kept mine within unlike = record {
  had_length = length-set had k (get_or had k 0 + 1) ∙ kept.had_length;
  finish_length = kept.finish_length;
  had_is = λ j below. had_set rows had finish given k j kept mine within below;
  finish_is = λ j below.
      let more : had_after rows (given + 1) j ≡ had_after rows given j + tick_for (row_at rows given) j = had_next rows given j in
      elim (cases_eq j k) [
        | inl same ↦
            let P : ℕ → Type 0 = λ i. MatchOption (get_or finish i None) (had_after rows (given + 1) i < ticks_of rows i) (λ e. EndsAt rows i e × (e ≤ given + 1)) in
            let unended : had_after rows given k < ticks_of rows k = (gets_first rows given k mine).ready.unended in
            let still : had_after rows (given + 1) k < ticks_of rows k =
            (omega (arith, had_next rows given k, tick_for_same (row_at rows given) k mine, kept.had_is k within, unlike, unended)) in
            subst P (sym same) (own_finish rows given k (get_or finish k None) unended still (kept.finish_is k within))
        | inr other ↦
            let none : tick_for (row_at rows given) j ≡ 0 = tick_for_other (row_at rows given) k j mine (λ e. other (sym e)) in
            other_finish rows given j (get_or finish j None) (omega arith) (kept.finish_is j below)
      ];
}

-- a tick that goes to a row as its last
pub track_last : (rows : List Row) (had : List ℕ) (finish : List (Option ℕ)) (given k : ℕ) → KeepsTrack rows had finish given
    → row_at rows given ≡ Some k → k < length rows → get_or had k 0 + 1 ≡ ticks_of rows k
    → KeepsTrack rows (set had k (get_or had k 0 + 1)) (set finish k (Some (given + 1))) (given + 1)
track_last rows had finish given k kept mine within whole = record {
  had_length = length-set had k (get_or had k 0 + 1) ∙ kept.had_length;
  finish_length = length-set finish k (Some (given + 1)) ∙ kept.finish_length;
  had_is = λ j below. had_set rows had finish given k j kept mine within below;
  finish_is = λ j below.
      let more : had_after rows (given + 1) j ≡ had_after rows given j + tick_for (row_at rows given) j = had_next rows given j in
      elim (cases_eq j k) [
        | inl same ↦
            let P : ℕ → Type 0 = λ i. MatchOption (get_or (set finish k (Some (given + 1))) i None) (had_after rows (given + 1) i < ticks_of rows i) (λ e. EndsAt rows i e × (e ≤ given + 1)) in
            let in_finish : k < length finish = omega (arith, kept.finish_length) in
            let back : (given + 1) - 1 ≡ given = omega arith in
            let Q : ℕ → Type 0 = λ t. row_at rows t ≡ Some k in
            let ends : EndsAt rows k (given + 1) = record {
              later = omega arith;
              last = subst Q (sym back) mine;
              whole = (omega (arith, had_next rows given k, tick_for_same (row_at rows given) k mine, kept.had_is k within, whole));
            } in
            subst P (sym same) (rw get_or-set_same (ends, omega arith))
        | inr other ↦
            let none : tick_for (row_at rows given) j ≡ 0 = tick_for_other (row_at rows given) k j mine (λ e. other (sym e)) in
            let same : had_after rows (given + 1) j ≡ had_after rows given j = omega arith in
            let kept_there = other_finish rows given j (get_or finish j None) same (kept.finish_is j below) in
            rw get_or-set_other kept_there
      ];
}

-- the same by what the code reads: the choice, the ticks that the chosen row has had, and the row
pub record Reads (rows : List Row) (had : List ℕ) (given k x : ℕ) (row : Row) : Type 0 where
  pub mine : row_at rows given ≡ Some k
  pub within : k < length rows
  pub had_read : get_or had k 0 ≡ x
  pub row_read : ticks_of rows k ≡ row.ticks

pub reads_at : (rows : List Row) (had : List ℕ) (finish : List (Option ℕ)) (given k x : ℕ) (row : Row) (o : Option ℕ) → KeepsTrack rows had finish given
    → o ≡ row_at rows given → o ≡ Some k → x ≡ get_or had k x → row ≡ get_or rows k row → Reads rows had given k x row
reads_at rows had finish given k x row o kept choice some had_read row_read =
    let mine : row_at rows given ≡ Some k = sym choice ∙ some in
    let within : k < length rows = (gets_first rows given k mine).ready.within in
    let in_had : k < length had = omega (arith, kept.had_length) in
    record {
      mine = mine;
      within = within;
      had_read = sym (get_or_read had k x in_had had_read 0);
      row_read = ap (λ r. r.ticks) (sym (get_or_read rows k row within row_read no_row));
    }

-- the chosen row has had fewer ticks than it takes
pub reads-lt : (rows : List Row) (had : List ℕ) (finish : List (Option ℕ)) (given k x : ℕ) (row : Row) → KeepsTrack rows had finish given
    → Reads rows had given k x row → x < row.ticks
reads-lt rows had finish given k x row kept r =
    omega (arith, r.had_read, r.row_read, kept.had_is k r.within, (gets_first rows given k r.mine).ready.unended)

pub reads_more : (rows : List Row) (had : List ℕ) (finish : List (Option ℕ)) (given k x : ℕ) (row : Row) → KeepsTrack rows had finish given
    → Reads rows had given k x row → (x + 1 ≡ row.ticks → ⊥) → KeepsTrack rows (set had k (x + 1)) finish (given + 1)
reads_more rows had finish given k x row kept r unlike =
    let P : ℕ → Type 0 = λ y. KeepsTrack rows (set had k (y + 1)) finish (given + 1) in
    subst P r.had_read (track_more rows had finish given k kept r.mine r.within (λ e. unlike (omega (arith, e, r.had_read, r.row_read))))

pub reads_last : (rows : List Row) (had : List ℕ) (finish : List (Option ℕ)) (given k x : ℕ) (row : Row) → KeepsTrack rows had finish given
    → Reads rows had given k x row → x + 1 ≡ row.ticks → KeepsTrack rows (set had k (x + 1)) (set finish k (Some (given + 1))) (given + 1)
reads_last rows had finish given k x row kept r whole =
    let P : ℕ → Type 0 = λ y. KeepsTrack rows (set had k (y + 1)) (set finish k (Some (given + 1))) (given + 1) in
    subst P r.had_read (track_last rows had finish given k kept r.mine r.within (omega (arith, whole, r.had_read, r.row_read)))
