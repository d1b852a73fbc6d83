-- The place at which an operation has its effect on the plain heap, and the entry that it then adds to the history.
use Rattle.std.proofs.Common.{◌≡◌, ℕ, ◌+◌, ◌≤◌, Bool, true, false, [], ◌∷◌, ◌++◌, inl, inr, refl, sym, ◌∙◌, ap, arith}
use Rattle.std.proofs.lemmas.Bool.{leb-true}
use Rattle.std.proofs.lemmas.Bool.Decides.{nat_tests}
use Rattle.std.specs.Prelude.{nat_le, ◌&&◌, if◌then◌else◌}
use Rattle.hk_words.specs.declared.call.Call.{Call}
use Rattle.hk_words.specs.declared.call.Call.TheVariants as call
use Rattle.hk_words.specs.declared.call.Reply.{Reply}
use Rattle.hk_words.specs.declared.call.Reply.TheVariants as reply
use Rattle.hk_words.specs.Bounds.{places_of}
use Rattle.hk_model.specs.Heap.{Heap}
use Rattle.hk_model.specs.History.{Entry, History, Legal, after, after_entry, is_full, is_new, is_question}
use Rattle.hk_model.specs.Replies.{reply_of, heap_after}
use Rattle.hk_model.proofs.Histories.{after-push, Legal_from-push}
use Rattle.hk_core.specs.declared.flight.Flight.{Flight}
use Rattle.hk_core.specs.declared.outcome.Outcome.TheVariants as outcome
use Rattle.hk_core.specs.Step.{outcome_at}
use Rattle.hk_core.specs.Replied.{outcome_of}
use Rattle.hk_core.proofs.Replied.{is_done, done_at}
use Rattle.hk_core.proofs.Shared.{refuted}
use Rattle.hk_dispatch.specs.Replay.{effect_place}

-- THE EFFECT PLACE of a call is one of its row

pub effect_some : (c : Call) → is_question c ≡ false → 1 ≤ effect_place c
effect_some (call.Get reg field) e = omega arith
effect_some (call.Put reg field value) e = omega arith
effect_some (call.Load dest reg field) e = omega arith
effect_some (call.Store reg field from) e = omega arith
effect_some (call.Move dest from) e = omega arith
effect_some (call.Clear dest) e = omega arith
effect_some (call.New dest shape) e = omega arith
effect_some (call.Same a b) e = absurd (cc)
effect_some (call.IsNull reg) e = absurd (cc)

pub effect_within : (c : Call) → effect_place c ≤ places_of c
effect_within (call.Get reg field) = omega arith
effect_within (call.Put reg field value) = omega arith
effect_within (call.Load dest reg field) = omega arith
effect_within (call.Store reg field from) = omega arith
effect_within (call.Move dest from) = omega arith
effect_within (call.Clear dest) = omega arith
effect_within (call.New dest shape) = omega arith
effect_within (call.Same a b) = omega arith
effect_within (call.IsNull reg) = omega arith

not_from : (n q : ℕ) → nat_le (n + 1) q ≡ false → q ≤ n
not_from n q e = grind (arith, nat_tests)

-- a call that had its effect stands past its effect place, and one that had none stands there or before it
done_late : (c : Call) (q : ℕ) → done_at c q false ≡ true → effect_place c + 1 ≤ q
unfolding done_at
done_late (call.Get reg field) q e = leb-true 3 q e
done_late (call.Put reg field value) q e = leb-true 3 q e
done_late (call.Load dest reg field) q e = leb-true 5 q e
done_late (call.Store reg field from) q e = leb-true 7 q e
done_late (call.Move dest from) q e = leb-true 3 q e
done_late (call.Clear dest) q e = absurd (cc)
done_late (call.New dest shape) q e = leb-true 7 q e
done_late (call.Same a b) q e = absurd (cc)
done_late (call.IsNull reg) q e = absurd (cc)

done_early : (c : Call) (q : ℕ) → q ≤ places_of c → done_at c q false ≡ false → q ≤ effect_place c
unfolding done_at
done_early (call.Get reg field) q few e = not_from 2 q e
done_early (call.Put reg field value) q few e = not_from 2 q e
done_early (call.Load dest reg field) q few e = not_from 4 q e
done_early (call.Store reg field from) q few e = not_from 6 q e
done_early (call.Move dest from) q few e = not_from 2 q e
done_early (call.Clear dest) q few e = few
done_early (call.New dest shape) q few e = not_from 6 q e
done_early (call.Same a b) q few e = few
done_early (call.IsNull reg) q few e = few

-- of a flight that isn't full
module _ (x : Flight) (c : Call) (is : x.call ≡ c) (room : x.full ≡ false) where
  done_by : is_done x ≡ done_at c x.place false
  unfolding is_done
  done_by = rw (is, room) refl

  pub late : is_done x ≡ true → effect_place c + 1 ≤ x.place
  late e = done_late c x.place (sym done_by ∙ e)

  pub early : x.place ≤ places_of c → is_done x ≡ false → x.place ≤ effect_place c
  early few e = done_early c x.place few (sym done_by ∙ e)

-- and it ends with a reply
pub some_reply : (x : Flight) → x.full ≡ false → (c : Call) → (r : Reply) × (outcome_at x c ≡ outcome.Done r)
some_reply x room (call.Get reg field) = (reply.Num x.item, refl)
some_reply x room (call.Put reg field value) = (reply.Unit, refl)
some_reply x room (call.Load dest reg field) = (reply.Unit, refl)
some_reply x room (call.Store reg field from) = (reply.Unit, refl)
some_reply x room (call.Move dest from) = (reply.Unit, refl)
some_reply x room (call.Clear dest) = (reply.Unit, refl)
some_reply x room (call.New dest shape) = (reply.Unit, rw room refl)
some_reply x room (call.Same a b) = (reply.Unit, refl)
some_reply x room (call.IsNull reg) = (reply.Unit, refl)

-- THE ENTRY of a call that says that it was done: its reply is the plain heap's, and so is what it changes

never : (b : Bool) → (b && false) ≡ false
never true = refl
never false = refl

done_entry : (e : Entry) (r : Reply) → outcome_of e ≡ outcome.Done r → (e.reply ≡ r) × (is_full e.reply ≡ false)
done_entry e r says = by_full (is_full e.reply) refl says
  where
    by_full : (b : Bool) → is_full e.reply ≡ b → (if b then outcome.Full e.number else outcome.Done e.reply) ≡ outcome.Done r → (e.reply ≡ r) × (is_full e.reply ≡ false)
    by_full true is s = absurd (cc)
    by_full false is s = (cc, is)

module _ (start : Heap) (history : History) (e : Entry) (r : Reply) (legal : Legal start (history ++ e ∷ [])) (says : outcome_of e ≡ outcome.Done r) where
  not_refused : (is_new e.call && is_full e.reply) ≡ false
  not_refused = ap (λ b. is_new e.call && b) (done_entry e r says).1 ∙ never (is_new e.call)

  pub reply_is : r ≡ reply_of (after start history) e.seat e.call
  reply_is = elim ((Legal_from-push start history e legal).1.1) [
    | inl answers ↦ sym (done_entry e r says).0 ∙ answers.0
    | inr refused ↦ refuted _ not_refused refused
  ]

  pub heap_is : after start (history ++ e ∷ []) ≡ heap_after (after start history) e.seat e.call
  unfolding after_entry
  heap_is = after-push start history e ∙ rw not_refused refl
