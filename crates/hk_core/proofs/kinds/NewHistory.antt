-- What the plain heap is after the entry of a New that made its object, and that this entry is legal.
use Rattle.std.proofs.Common.{◌≡◌, ℕ, ◌+◌, ◌<◌, [], ◌∷◌, ◌++◌, length, inl, refl, sym, ◌∙◌, ap, arith, Some}
use Rattle.hk_words.specs.declared.geometry.Geometry.{Geometry}
use Rattle.hk_words.specs.declared.shape.Shape.{Shape}
use Rattle.hk_words.specs.declared.call.Call.TheVariants as call
use Rattle.hk_words.specs.declared.call.Reply.TheVariants.{Unit as Done}
use Rattle.hk_words.specs.Geometry.{tasks}
use Rattle.hk_model.specs.View.{upd, upd2, view_of}
use Rattle.hk_model.specs.Heap as heap
use Rattle.hk_model.specs.Heap.{born}
use Rattle.hk_model.specs.History.{Entry, History, Legal, after, after_entry, numbers, number_of, bearer}
use Rattle.hk_model.proofs.Views.{link_unborn, value_unborn}
use Rattle.hk_model.proofs.Effects.{view_of-new}
use Rattle.hk_model.proofs.Histories.{after-push, Legal-push, number_of-push_birth, bearer-push_birth, bearer_is_last, length-numbers_born}
use Rattle.hk_model.proofs.Replies.{reply_of-new}
use Rattle.hk_core.specs.View.{names_of, contents_of}
use Rattle.hk_core.proofs.kinds.Effects.{is_heap}
use Rattle.hk_core.proofs.kinds.WriteRegister.{writing_contents}
use Rattle.hk_core.proofs.kinds.NewBorn.{born_names, IsNextBirth}

-- the entry of a New that made its object, and gave it a number
abbrev pub made : (seat dest : ℕ) → Shape → (number : ℕ) → Entry
made seat dest shape number = record { seat = seat; call = call.New dest shape; reply = Done; number = number }

-- the birth that comes next
abbrev pub next_birth : Geometry → History → ℕ
next_birth g history = born (after (heap.opening_of g) history)

one_at_start : (g : Geometry) → born (heap.opening_of g) ≡ 1
unfolding born heap.opening_of heap.opening
one_at_start g = refl

module _ (g : Geometry) (history : History) (legal : Legal (heap.opening_of g) history) where
  births_are : length (numbers history) ≡ next_birth g history
  births_are = length-numbers_born (heap.opening_of g) history (one_at_start g) legal

  -- no number has it, and its cells would be null and 0
  pub is_next : IsNextBirth (names_of g history) (contents_of g history) (next_birth g history)
  unfolding names_of contents_of
  is_next = record {
    unborn = λ n bears. let last = (bearer_is_last history n (next_birth g history)).0 bears in let few : next_birth g history < length (numbers history) = last.0 in let are = births_are in omega arith;
    no_links = λ i. link_unborn (after (heap.opening_of g) history) (next_birth g history) i (omega arith);
    no_values = λ i. value_unborn (after (heap.opening_of g) history) (next_birth g history) i (omega arith);
  }

  module _ (seat dest : ℕ) (shape : Shape) (number : ℕ) (seated : seat < tasks g) (within : dest < g.registers) where
    view-born : view_of (after (heap.opening_of g) (history ++ made seat dest shape number ∷ [])) ≡ record (view_of (after (heap.opening_of g) history)) {
      born = next_birth g history + 1;
      refs = upd (heap.refs (after (heap.opening_of g) history)) (next_birth g history) shape.refs;
      nums = upd (heap.nums (after (heap.opening_of g) history)) (next_birth g history) shape.nums;
      register = upd2 (heap.register (after (heap.opening_of g) history)) seat dest (Some (next_birth g history));
    }
    unfolding after_entry
    view-born =
        ap view_of (after-push (heap.opening_of g) history (made seat dest shape number))
        ∙ view_of-new (tasks g) g.registers (after (heap.opening_of g) history) seat dest shape (is_heap g history) seated within

    -- the plain heap has one more birth
    pub names-born : names_of g (history ++ made seat dest shape number ∷ []) ≡ born_names (names_of g history) number (next_birth g history) shape
    unfolding names_of view_of
    names-born =
        let bearers : bearer (history ++ made seat dest shape number ∷ []) ≡ upd (bearer history) number (Some (next_birth g history)) =
        bearer-push_birth history (made seat dest shape number) refl ∙ ap (λ (k : ℕ). upd (bearer history) number (Some k)) births_are in
        let given : number_of (history ++ made seat dest shape number ∷ []) ≡ upd (number_of history) (next_birth g history) number =
        number_of-push_birth history (made seat dest shape number) refl ∙ ap (λ (k : ℕ). upd (number_of history) k number) births_are in
        λ i. record { bearer = bearers i; number = given i; refs = (view-born i).refs; nums = (view-born i).nums }

    -- it is in the register
    pub contents-born : contents_of g (history ++ made seat dest shape number ∷ []) ≡ writing_contents (contents_of g history) seat dest (Some (next_birth g history))
    unfolding contents_of view_of
    contents-born = λ i. record { register = (view-born i).register; link = (view-born i).link; value = (view-born i).value }

    -- the entry is legal
    pub legal-born : Legal (heap.opening_of g) (history ++ made seat dest shape number ∷ [])
    legal-born =
        Legal-push (heap.opening_of g) history (made seat dest shape number) legal
        (refl, inl (sym (reply_of-new (after (heap.opening_of g) history) seat dest shape), (λ e. absurd (cc)), (λ e. absurd (cc))))
