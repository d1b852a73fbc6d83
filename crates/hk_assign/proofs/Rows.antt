-- The timings of tasks in a row.
use Rattle.std.proofs.Common.{◌≡◌, ◌∙◌, refl, sym, ap, subst, ℕ, ◌+◌, ◌<◌, ◌≤◌, ◌↔◌, suc, List, [], ◌∷◌, ◌++◌, All, length, take, drop, get_or, set, slice_index, IsTrue, IfSome, IsNone, Option, Some, None, is_some, ◌-◌, arith}
use Rattle.std.specs.List.{remove, range_with_len}
use Rattle.std.proofs.lemmas.List.{take_more_set, map_more, map-id, take-map, drop-map, map_push, map-append, get_or-map, length-map}
use Rattle.std.proofs.lemmas.List.Sorted.{All-permutation}
use Rattle.std.proofs.lemmas.Slice.{put_mid-rotated}
use borrow.Rule.Slice.PartMut.{put_mid, mid_of}
use Rattle.std.proofs.lemmas.List.FromFn.{map-range_with_len_more}
use Rattle.std.proofs.lemmas.List.Elements.{All-map}
use Rattle.hk_rta.specs.declared.Timing.{Timing}
use Rattle.hk_rta.specs.Demand.{IsTimed, timing_at, deadline_at, jitter_at, no_timing}
use Rattle.hk_rta.specs.Response.{Response, IsLate}
use Rattle.hk_assign.specs.Orders.{in_order, IsInTime}
use Rattle.hk_assign.proofs.Demands.{last_is}
use Rattle.hk_assign.proofs.Sets.{to_the_end}

-- one index more
range_more : (a n j : ℕ) → a + n ≡ j → range_with_len a (n + 1) ≡ range_with_len a n ++ j ∷ []
range_more a n j e =
    sym (map-id (range_with_len a (n + 1))) ∙ map-range_with_len_more (λ (i : ℕ). i) a n j e ∙ ap (λ (l : List ℕ). l ++ j ∷ []) (map-id (range_with_len a n))

pub index_more : (tasks : List ℕ) (k : ℕ) → k < length tasks → take k tasks ≡ range_with_len 0 k → take (k + 1) (set tasks k k) ≡ range_with_len 0 (k + 1)
index_more tasks k within so_far =
    take_more_set tasks k k within ∙ ap (λ (l : List ℕ). l ++ k ∷ []) so_far ∙ sym (range_more 0 k k (omega arith))

-- one timing more
pub timing_more : (timings row : List Timing) (tasks : List ℕ) (k task : ℕ) → k < length row → k < length tasks → task ≡ slice_index tasks k → take k row ≡ in_order timings (take k tasks) → take (k + 1) (set row k (timing_at timings task)) ≡ in_order timings (take (k + 1) tasks)
timing_more timings row tasks k task within short is so_far =
    take_more_set row k (timing_at timings task) within
    ∙ (λ i. so_far i ++ timing_at timings (is i) ∷ [])
    ∙ sym (map_more (timing_at timings) tasks k 0 short)

-- the row with the timing at a place behind the others
row_turned : (timings : List Timing) (free : List ℕ) (place : ℕ) → place < length free → remove (in_order timings free) place ++ get_or (in_order timings free) place no_timing ∷ [] ≡ in_order timings (remove free place ++ slice_index free place ∷ [])
row_turned timings free place within =
    (λ i. (take-map (timing_at timings) place free i ++ drop-map (timing_at timings) (suc place) free i) ++ get_or-map (timing_at timings) free place 0 no_timing within i ∷ [])
    ∙ ap (λ (l : List Timing). l ++ timing_at timings (slice_index free place) ∷ []) (sym (map-append (timing_at timings) (take place free) (drop (suc place) free)))
    ∙ sym (map_push (timing_at timings) (remove free place) (slice_index free place))

-- turned so in place
pub rotated : (timings row after : List Timing) (free : List ℕ) (place k : ℕ) → row ≡ in_order timings free → place < length free → length row ≤ place + k → after ≡ drop 1 (mid_of place k row) ++ take 1 (mid_of place k row) → put_mid place k row after ≡ in_order timings (remove free place ++ slice_index free place ∷ [])
rotated timings row after free place k is within long e =
    put_mid-rotated place k row after no_timing (omega (arith, ap length is, length-map free (timing_at timings), within)) long e
    ∙ ap (λ (r : List Timing). remove r place ++ get_or r place no_timing ∷ []) is
    ∙ row_turned timings free place within

pub all_timed : (timings : List Timing) (tasks : List ℕ) → All IsTimed timings → All (λ (task : ℕ). task < length timings) tasks → All IsTimed (in_order timings tasks)
all_timed timings tasks timed within =
    All-map IsTimed (timing_at timings) tasks (λ k d short. timed (get_or tasks k d) no_timing (within k d short))

pub turned_tasks : (bound : ℕ) (free : List ℕ) (place : ℕ) → place < length free → All (λ (task : ℕ). task < bound) free → All (λ (task : ℕ). task < bound) (remove free place ++ slice_index free place ∷ [])
turned_tasks bound free place within all =
    All-permutation (λ (task : ℕ). task < bound) free (remove free place ++ slice_index free place ∷ []) (to_the_end free place within) all

-- what is answered of the last task of a row
pub last_answer : (timings row : List Timing) (before : List ℕ) (task i : ℕ) (r : Option ℕ) → row ≡ in_order timings (before ++ task ∷ []) → i ≡ length before → IfSome r (λ x. Response row i x) → IfSome r (λ x. x ≤ deadline_at row i) → (IsNone r ↔ IsLate row i) → (IsTrue (is_some r) → IsInTime timings before task) × (IsInTime timings before task → IsTrue (is_some r))
last_answer timings row before task i None is at found short none = (
  λ e. absurd (cc),
  λ h.
      let late = subst (λ (n : ℕ). IsLate (in_order timings (before ++ task ∷ [])) n) at (subst (λ (l : List Timing). IsLate l i) is (none.0 refl)) in
      let jitter = h.is_response.after_jitter in
      let deadline = ap (λ (t : Timing). t.deadline) (last_is timings before task) in
      absurd (late (h.response - jitter_at (in_order timings (before ++ task ∷ [])) (length before)) (omega (arith, jitter, h.in_time, deadline)) h.is_response.least.holds),
)
last_answer timings row before task i (Some x) is at found short none = (
  λ _. record {
    response = x;
    is_response = subst (λ (n : ℕ). Response (in_order timings (before ++ task ∷ [])) n x) at (subst (λ (l : List Timing). Response l i x) is found);
    in_time =
        let deadline = ap (λ (t : Timing). t.deadline) (last_is timings before task) in
        omega (arith, deadline, subst (λ (n : ℕ). x ≤ deadline_at (in_order timings (before ++ task ∷ [])) n) at (subst (λ (l : List Timing). x ≤ deadline_at l i) is short));
  },
  λ _. refl,
)
