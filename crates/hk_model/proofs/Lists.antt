-- Lists with one element changed.
use Rattle.std.proofs.Common.{◌≡◌, ℕ, zero, suc, ◌<◌, ◌≤◌, ◌≢◌, ◌⊎◌, inl, inr, List, [], ◌∷◌, ◌++◌, length, get_or, set, slice_get, unwrap_or, option_map, refl, ap, arith, get_or-set_other}
use Rattle.hk_model.specs.Replies.{changed_at}

pub length-changed_at : {A : Type 0} (change : A → A) (xs : List A) (i : ℕ) → length (changed_at change xs i) ≡ length xs
length-changed_at change [] i = refl
length-changed_at change (x ∷ xs) zero = refl
length-changed_at change (x ∷ xs) (suc i) = ap suc (length-changed_at change xs i)

pub get_or-changed_at_same : {A : Type 0} (change : A → A) (xs : List A) (i : ℕ) (d : A) → i < length xs → get_or (changed_at change xs i) i d ≡ change (get_or xs i d)
get_or-changed_at_same change [] i d l = absurd (omega arith)
get_or-changed_at_same change (x ∷ xs) zero d l = refl
get_or-changed_at_same change (x ∷ xs) (suc i) d l = get_or-changed_at_same change xs i d (omega arith)

-- what is read of an element, where the change doesn't change what is read
pub read-changed_at_kept : {A B : Type 0} (read : A → B) (change : A → A) (d : B) → ((x : A) → read (change x) ≡ read x) → (xs : List A) (i k : ℕ)
    → unwrap_or (option_map read (slice_get (changed_at change xs i) k)) d ≡ unwrap_or (option_map read (slice_get xs k)) d
read-changed_at_kept read change d same [] i k = refl
read-changed_at_kept read change d same (x ∷ xs) zero zero = same x
read-changed_at_kept read change d same (x ∷ xs) zero (suc k) = refl
read-changed_at_kept read change d same (x ∷ xs) (suc i) zero = refl
read-changed_at_kept read change d same (x ∷ xs) (suc i) (suc k) = read-changed_at_kept read change d same xs i k

-- what is read of another element
pub read-changed_at_other : {A B : Type 0} (read : A → B) (change : A → A) (d : B) (xs : List A) (i k : ℕ) → k ≢ i
    → unwrap_or (option_map read (slice_get (changed_at change xs i) k)) d ≡ unwrap_or (option_map read (slice_get xs k)) d
read-changed_at_other read change d [] i k n = refl
read-changed_at_other read change d (x ∷ xs) zero zero n = absurd (n refl)
read-changed_at_other read change d (x ∷ xs) zero (suc k) n = refl
read-changed_at_other read change d (x ∷ xs) (suc i) zero n = refl
read-changed_at_other read change d (x ∷ xs) (suc i) (suc k) n = read-changed_at_other read change d xs i k (λ e. n (ap suc e))

-- what is read of the changed element
pub read-changed_at_same : {A B : Type 0} (read : A → B) (change : A → A) (d : B) (xs : List A) (i : ℕ)
    → unwrap_or (option_map read (slice_get (changed_at change xs i) i)) d ≡ unwrap_or (option_map (λ x. read (change x)) (slice_get xs i)) d
read-changed_at_same read change d [] i = refl
read-changed_at_same read change d (x ∷ xs) zero = refl
read-changed_at_same read change d (x ∷ xs) (suc i) = read-changed_at_same read change d xs i

-- what is read of an element that a list has is what is read of the element itself
pub read_within : {A B : Type 0} (read : A → B) (d : B) (xs : List A) (i : ℕ) (x : A) → i < length xs → unwrap_or (option_map read (slice_get xs i)) d ≡ read (get_or xs i x)
read_within read d [] i x l = absurd (omega arith)
read_within read d (y ∷ xs) zero x l = refl
read_within read d (y ∷ xs) (suc i) x l = read_within read d xs i x (omega arith)

pub read_past : {A B : Type 0} (read : A → B) (d : B) (xs : List A) (i : ℕ) → length xs ≤ i → unwrap_or (option_map read (slice_get xs i)) d ≡ d
read_past read d [] i l = refl
read_past read d (y ∷ xs) zero l = absurd (omega arith)
read_past read d (y ∷ xs) (suc i) l = read_past read d xs i (omega arith)

-- what is read of a list with one element more
pub read-push_before : {A B : Type 0} (read : A → B) (d : B) (xs : List A) (y : A) (k : ℕ) → k ≢ length xs
    → unwrap_or (option_map read (slice_get (xs ++ y ∷ []) k)) d ≡ unwrap_or (option_map read (slice_get xs k)) d
read-push_before read d [] y zero n = absurd (n refl)
read-push_before read d [] y (suc k) n = refl
read-push_before read d (x ∷ xs) y zero n = refl
read-push_before read d (x ∷ xs) y (suc k) n = read-push_before read d xs y k (λ e. n (ap suc e))

pub read-push_last : {A B : Type 0} (read : A → B) (d : B) (xs : List A) (y : A) → unwrap_or (option_map read (slice_get (xs ++ y ∷ []) (length xs))) d ≡ read y
read-push_last read d [] y = refl
read-push_last read d (x ∷ xs) y = read-push_last read d xs y

-- what is measured of an element that is looked up, where the change doesn't change it
pub measure-changed_at : {A B : Type 0} (measure : A → B) (change : A → A) (d : A) → ((x : A) → measure (change x) ≡ measure x) → (xs : List A) (i k : ℕ)
    → measure (get_or (changed_at change xs i) k d) ≡ measure (get_or xs k d)
measure-changed_at measure change d same [] i k = refl
measure-changed_at measure change d same (x ∷ xs) zero zero = same x
measure-changed_at measure change d same (x ∷ xs) zero (suc k) = refl
measure-changed_at measure change d same (x ∷ xs) (suc i) zero = refl
measure-changed_at measure change d same (x ∷ xs) (suc i) (suc k) = measure-changed_at measure change d same xs i k

-- an element of a list with one set is that one, or was there before
pub get_or-set_cases : {A : Type 0} (xs : List A) (i : ℕ) (v : A) (k : ℕ) (d : A) → (get_or (set xs i v) k d ≡ v) ⊎ (get_or (set xs i v) k d ≡ get_or xs k d)
get_or-set_cases [] i v k d = inr refl
get_or-set_cases (x ∷ xs) zero v zero d = inl refl
get_or-set_cases (x ∷ xs) zero v (suc k) d = inr refl
get_or-set_cases (x ∷ xs) (suc i) v zero d = inr refl
get_or-set_cases (x ∷ xs) (suc i) v (suc k) d = get_or-set_cases xs i v k d

-- what is looked up in a row of lists with an element of one of them set is that one, or was there before
pub get_or-changed_row_cases : {A : Type 0} (rows : List (List A)) (i j : ℕ) (v : A) (k l : ℕ) (d : A)
    → (get_or (get_or (changed_at (λ own. set own j v) rows i) k []) l d ≡ v) ⊎ (get_or (get_or (changed_at (λ own. set own j v) rows i) k []) l d ≡ get_or (get_or rows k []) l d)
get_or-changed_row_cases [] i j v k l d = inr refl
get_or-changed_row_cases (row ∷ rows) zero j v zero l d = get_or-set_cases row j v l d
get_or-changed_row_cases (row ∷ rows) zero j v (suc k) l d = inr refl
get_or-changed_row_cases (row ∷ rows) (suc i) j v zero l d = inr refl
get_or-changed_row_cases (row ∷ rows) (suc i) j v (suc k) l d = get_or-changed_row_cases rows i j v k l d

-- what is looked up in another place than the one that was set
pub get_or-changed_row_other : {A : Type 0} (rows : List (List A)) (i j : ℕ) (v : A) (k l : ℕ) (d : A) → (k ≢ i) ⊎ (l ≢ j)
    → get_or (get_or (changed_at (λ own. set own j v) rows i) k []) l d ≡ get_or (get_or rows k []) l d
get_or-changed_row_other [] i j v k l d n = refl
get_or-changed_row_other (row ∷ rows) zero j v zero l d (inl n) = absurd (n refl)
get_or-changed_row_other (row ∷ rows) zero j v zero l d (inr n) = get_or-set_other row j l v d n
get_or-changed_row_other (row ∷ rows) zero j v (suc k) l d n = refl
get_or-changed_row_other (row ∷ rows) (suc i) j v zero l d n = refl
get_or-changed_row_other (row ∷ rows) (suc i) j v (suc k) l d (inl n) = get_or-changed_row_other rows i j v k l d (inl (λ e. n (ap suc e)))
get_or-changed_row_other (row ∷ rows) (suc i) j v (suc k) l d (inr n) = get_or-changed_row_other rows i j v k l d (inr n)

-- an element of a list with one more
pub get_or-push_last : {A : Type 0} (xs : List A) (y d : A) → get_or (xs ++ y ∷ []) (length xs) d ≡ y
get_or-push_last [] y d = refl
get_or-push_last (x ∷ xs) y d = get_or-push_last xs y d

pub get_or-push_before : {A : Type 0} (xs : List A) (y : A) (k : ℕ) (d : A) → k ≢ length xs → get_or (xs ++ y ∷ []) k d ≡ get_or xs k d
get_or-push_before [] y zero d n = absurd (n refl)
get_or-push_before [] y (suc k) d n = refl
get_or-push_before (x ∷ xs) y zero d n = refl
get_or-push_before (x ∷ xs) y (suc k) d n = get_or-push_before xs y k d (λ e. n (ap suc e))

-- an element that a list has is read whatever would be read past its end
pub get_or_within : {A : Type 0} (xs : List A) (i : ℕ) (d e : A) → i < length xs → get_or xs i d ≡ get_or xs i e
get_or_within [] i d e l = absurd (omega arith)
get_or_within (x ∷ xs) zero d e l = refl
get_or_within (x ∷ xs) (suc i) d e l = get_or_within xs i d e (omega arith)

-- a changed element is one that is set
pub changed_at-set : {A : Type 0} (change : A → A) (xs : List A) (i : ℕ) (d : A) → changed_at change xs i ≡ set xs i (change (get_or xs i d))
changed_at-set change [] i d = refl
changed_at-set change (x ∷ xs) zero d = refl
changed_at-set change (x ∷ xs) (suc i) d = ap (λ ys. x ∷ ys) (changed_at-set change xs i d)
