-- A heap seen by functions: each call changes one of them at one place, and leaves the others as they are.
use Rattle.std.specs.Prelude.{ℕ, Option, nat_eq, if◌then◌else◌}
use Rattle.hk_model.specs.Heap.{Heap, born, register, refs, nums, link, value}

-- a function with one of its values changed
unfoldable pub upd : {A : Type 0} → (ℕ → A) → ℕ → A → ℕ → A
upd f n v k = if nat_eq k n then v else f k

-- a function of two arguments with one of its values changed
unfoldable pub upd2 : {A : Type 0} → (ℕ → ℕ → A) → ℕ → ℕ → A → ℕ → ℕ → A
upd2 f m n v = upd f m (upd (f m) n v)

-- what a heap says, by functions
pub record View : Type 0 where
  pub born : ℕ
  pub refs : ℕ → ℕ
  pub nums : ℕ → ℕ
  pub register : ℕ → ℕ → Option ℕ
  pub link : ℕ → ℕ → Option ℕ
  pub value : ℕ → ℕ → ℕ

-- the view of a heap
unfoldable pub view_of : Heap → View
view_of h = record { born = born h; refs = refs h; nums = nums h; register = register h; link = link h; value = value h }
