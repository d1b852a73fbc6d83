-- A turn of the collector, event by event.
use Rattle.std.proofs.Common.{◌≡◌, ◌≢◌, ℕ, ◌+◌, ◌<◌, subst, arith}
use Rattle.hk_words.specs.declared.geometry.Geometry.{Geometry}
use Rattle.hk_core.specs.declared.spot.Work.{Work}
use Rattle.hk_core.specs.declared.spot.Work.TheVariants.{Useful}
use Rattle.hk_table.specs.Knows.{KeeperView}
use Rattle.hk_keeper.specs.Collected.{Collected}
use Rattle.hk_keeper.proofs.Together.{as_many, more, within}

module _ (g : Geometry) (k k' k'' : KeeperView) (m e : ℕ) (work : Work) (a : Collected g k m Useful m k') (b : Collected g k' 1 work e k'') where
  -- after a useful event the turn goes on
  pub goes_on : work ≡ Useful → Collected g k (m + 1) Useful (m + 1) k'' × (e ≡ 1)
  goes_on is =
      let b' : Collected g k' 1 Useful e k'' = subst (λ (w : Work). Collected g k' 1 w e k'') is b in
      let one : e ≡ 1 = as_many g k' k'' 1 e b' in
      (subst (λ (n : ℕ). Collected g k (m + 1) Useful (m + n) k'') one (more g k k' m m a 1 Useful e k'' b'), one)

  -- after any other the turn is over
  pub is_over : (budget : ℕ) → work ≢ Useful → m < budget → Collected g k budget work (m + e) k''
  is_over budget other below = within g k k'' (m + 1) budget work (m + e) other (omega arith) (more g k k' m m a 1 work e k'' b)
