-- The ten parts of a picture, one behind another.
use Rattle.std.proofs.Common.{◌≡◌, ℕ, List, [], ◌++◌, Option, subst}
use Rattle.hk_io.specs.Bytes.{AppendsPrefix, AppendsFront}
use Rattle.hk_io.proofs.BytesLemmas.{AppendsPrefix-append}

-- nothing waited before
pub begun : (a b : Option (List ℕ)) (waiting text rest : List ℕ) → waiting ≡ [] → AppendsFront a b (waiting ++ text) rest → AppendsFront a b ([] ++ text) rest
begun a b waiting text rest none front = subst (λ (x : List ℕ). AppendsFront a b (x ++ text) rest) none front

pub begun_prefix : (a b : Option (List ℕ)) (waiting text : List ℕ) → waiting ≡ [] → AppendsPrefix a b (waiting ++ text) → AppendsPrefix a b ([] ++ text)
begun_prefix a b waiting text none prefix = subst (λ (x : List ℕ). AppendsPrefix a b (x ++ text)) none prefix

module _ (a b : Option (List ℕ)) (t1 t2 t3 t4 t5 t6 t7 t8 t9 t10 : List ℕ) where
  pub after9 : AppendsPrefix a b ([] ++ t1 ++ t2 ++ t3 ++ t4 ++ t5 ++ t6 ++ t7 ++ t8 ++ t9) → AppendsPrefix a b ([] ++ t1 ++ t2 ++ t3 ++ t4 ++ t5 ++ t6 ++ t7 ++ t8 ++ t9 ++ t10)
  after9 x = AppendsPrefix-append a b ([] ++ t1 ++ t2 ++ t3 ++ t4 ++ t5 ++ t6 ++ t7 ++ t8 ++ t9) t10 x

  pub after8 : AppendsPrefix a b ([] ++ t1 ++ t2 ++ t3 ++ t4 ++ t5 ++ t6 ++ t7 ++ t8) → AppendsPrefix a b ([] ++ t1 ++ t2 ++ t3 ++ t4 ++ t5 ++ t6 ++ t7 ++ t8 ++ t9 ++ t10)
  after8 x = after9 (AppendsPrefix-append a b ([] ++ t1 ++ t2 ++ t3 ++ t4 ++ t5 ++ t6 ++ t7 ++ t8) t9 x)

  pub after7 : AppendsPrefix a b ([] ++ t1 ++ t2 ++ t3 ++ t4 ++ t5 ++ t6 ++ t7) → AppendsPrefix a b ([] ++ t1 ++ t2 ++ t3 ++ t4 ++ t5 ++ t6 ++ t7 ++ t8 ++ t9 ++ t10)
  after7 x = after8 (AppendsPrefix-append a b ([] ++ t1 ++ t2 ++ t3 ++ t4 ++ t5 ++ t6 ++ t7) t8 x)

  pub after6 : AppendsPrefix a b ([] ++ t1 ++ t2 ++ t3 ++ t4 ++ t5 ++ t6) → AppendsPrefix a b ([] ++ t1 ++ t2 ++ t3 ++ t4 ++ t5 ++ t6 ++ t7 ++ t8 ++ t9 ++ t10)
  after6 x = after7 (AppendsPrefix-append a b ([] ++ t1 ++ t2 ++ t3 ++ t4 ++ t5 ++ t6) t7 x)

  pub after5 : AppendsPrefix a b ([] ++ t1 ++ t2 ++ t3 ++ t4 ++ t5) → AppendsPrefix a b ([] ++ t1 ++ t2 ++ t3 ++ t4 ++ t5 ++ t6 ++ t7 ++ t8 ++ t9 ++ t10)
  after5 x = after6 (AppendsPrefix-append a b ([] ++ t1 ++ t2 ++ t3 ++ t4 ++ t5) t6 x)

  pub after4 : AppendsPrefix a b ([] ++ t1 ++ t2 ++ t3 ++ t4) → AppendsPrefix a b ([] ++ t1 ++ t2 ++ t3 ++ t4 ++ t5 ++ t6 ++ t7 ++ t8 ++ t9 ++ t10)
  after4 x = after5 (AppendsPrefix-append a b ([] ++ t1 ++ t2 ++ t3 ++ t4) t5 x)

  pub after3 : AppendsPrefix a b ([] ++ t1 ++ t2 ++ t3) → AppendsPrefix a b ([] ++ t1 ++ t2 ++ t3 ++ t4 ++ t5 ++ t6 ++ t7 ++ t8 ++ t9 ++ t10)
  after3 x = after4 (AppendsPrefix-append a b ([] ++ t1 ++ t2 ++ t3) t4 x)

  pub after2 : AppendsPrefix a b ([] ++ t1 ++ t2) → AppendsPrefix a b ([] ++ t1 ++ t2 ++ t3 ++ t4 ++ t5 ++ t6 ++ t7 ++ t8 ++ t9 ++ t10)
  after2 x = after3 (AppendsPrefix-append a b ([] ++ t1 ++ t2) t3 x)

  pub after1 : AppendsPrefix a b ([] ++ t1) → AppendsPrefix a b ([] ++ t1 ++ t2 ++ t3 ++ t4 ++ t5 ++ t6 ++ t7 ++ t8 ++ t9 ++ t10)
  after1 x = after2 (AppendsPrefix-append a b ([] ++ t1) t2 x)
