-- Who waits: a claim in hand of one actor stays where that of another is changed.
use Rattle.std.proofs.Common.{◌≡◌, ◌≢◌, ℕ, sym, ◌∙◌, ap}
use Rattle.hk_words.specs.declared.geometry.Geometry.{Geometry}
use Rattle.hk_model.specs.View.{upd}
use Rattle.hk_model.proofs.Updates.{upd_other}
use Rattle.hk_core.specs.Facts.{IsHeld, IsLinking}
use Rattle.hk_core.specs.Flights.{Hand, no_claim, to_reserve, to_link}

-- a claim that has still to reserve stays, where the changed hand held none such
pub held_else : (g : Geometry) (hand : ℕ → Hand) (k : ℕ) (new : Hand) (m : ℕ) → ((item c : ℕ) → hand k ≢ to_reserve item c) → IsHeld g hand m → IsHeld g (upd hand k new) m
held_else g hand k new m free (j, item, c, within, holds, is) = (j, item, c, within, upd_other hand k new j (λ e. free item c (ap hand (sym e) ∙ holds)) ∙ holds, is)

-- and one that has still to link at an offset
pub linking_else : (g : Geometry) (hand : ℕ → Hand) (k : ℕ) (new : Hand) (x : ℕ) → ((item c : ℕ) → hand k ≢ to_link item c x) → IsLinking g hand x → IsLinking g (upd hand k new) x
linking_else g hand k new x free (j, item, c, within, holds) = (j, item, c, within, upd_other hand k new j (λ e. free item c (ap hand (sym e) ∙ holds)) ∙ holds)

-- hands of different kinds are different
pub free_not_reserving : (h : Hand) → h ≡ no_claim → (item c : ℕ) → h ≢ to_reserve item c
free_not_reserving h free item c e = let q : no_claim ≡ to_reserve item c = sym free ∙ e in absurd (cc)

pub free_not_linking : (h : Hand) → h ≡ no_claim → (x item c : ℕ) → h ≢ to_link item c x
free_not_linking h free x item c e = let q : no_claim ≡ to_link item c x = sym free ∙ e in absurd (cc)

pub reserving_not_linking : (h : Hand) (i d : ℕ) → h ≡ to_reserve i d → (x item c : ℕ) → h ≢ to_link item c x
reserving_not_linking h i d holds x item c e = let q : to_reserve i d ≡ to_link item c x = sym holds ∙ e in absurd (cc)

pub linking_not_reserving : (h : Hand) (i d offset : ℕ) → h ≡ to_link i d offset → (item c : ℕ) → h ≢ to_reserve item c
linking_not_reserving h i d offset holds item c e = let q : to_link i d offset ≡ to_reserve item c = sym holds ∙ e in absurd (cc)

pub linking_not_elsewhere : (h : Hand) (i d offset x : ℕ) → h ≡ to_link i d offset → x ≢ offset → (item c : ℕ) → h ≢ to_link item c x
linking_not_elsewhere h i d offset x holds differ item c e =
    let q : to_link i d offset ≡ to_link item c x = sym holds ∙ e in
    let same : offset ≡ x = cc in
    differ (sym same)
