-- The ten parts, one behind another.
use Rattle.std.proofs.Common.{List, ℕ, [], ◌++◌}
use Rattle.std.proofs.lemmas.Result.{err_from_is_err_and, on_ok_weaker, on_err_weaker}
use Rattle.hk_io.proofs.BytesLemmas.{AppendsFront-trans, AppendsPrefix-behind, AppendsPrefix-rest, Appends-all}
use Rattle.hk_chart.specs.declared.picture.Part.TheVariants as part
use Rattle.hk_chart.specs.Drawing.{texts_of}
use Rattle.hk_chart.proofs.AllParts.{begun, begun_prefix, after1, after2, after3, after4, after5, after6, after7, after8, after9}
use Rattle.hk_chart.proofs.picture.put_picture.Goals as goal

pub returns-in_err-put_text-clause-prefix : goal.returns-in_err-put_text-clause-prefix
returns-in_err-put_text-clause-prefix g c =
    let f = c.args.frame.now in
    let h = c.args.chart.now in
    let t1 : List ℕ = f.top in
    let t2 : List ℕ = texts_of part.Bars h in
    let t3 : List ℕ = texts_of part.Marks h in
    let t4 : List ℕ = f.owed in
    let t5 : List ℕ = texts_of part.Owed h in
    let t6 : List ℕ = f.middle in
    let t7 : List ℕ = texts_of part.Collector h in
    let t8 : List ℕ = f.between in
    let t9 : List ℕ = texts_of part.Idle h in
    let t10 : List ℕ = f.bottom in
    let p = err_from_is_err_and c.from_residual.result c.from_residual.ensures.1 in
    rw p.1 (after1 _ _ t1 t2 t3 t4 t5 t6 t7 t8 t9 t10 (begun_prefix _ _ c.new-gather.result t1 c.new-gather.ensures c.in_err-put_text.ensures.prefix))

pub returns-in_err-put_part-clause-prefix : goal.returns-in_err-put_part-clause-prefix
returns-in_err-put_part-clause-prefix g c =
    let f = c.args.frame.now in
    let h = c.args.chart.now in
    let t1 : List ℕ = f.top in
    let t2 : List ℕ = texts_of part.Bars h in
    let t3 : List ℕ = texts_of part.Marks h in
    let t4 : List ℕ = f.owed in
    let t5 : List ℕ = texts_of part.Owed h in
    let t6 : List ℕ = f.middle in
    let t7 : List ℕ = texts_of part.Collector h in
    let t8 : List ℕ = f.between in
    let t9 : List ℕ = texts_of part.Idle h in
    let t10 : List ℕ = f.bottom in
    let front1 = begun _ _ c.new-gather.result t1 c.put_text.new.gather c.new-gather.ensures c.in_ok-put_text.ensures.ok in
    let p = err_from_is_err_and c.from_residual-in_err-put_part.result c.from_residual-in_err-put_part.ensures.1 in
    rw p.1 (after2 _ _ t1 t2 t3 t4 t5 t6 t7 t8 t9 t10 (AppendsPrefix-behind _ _ _ ([] ++ t1) c.put_text.new.gather t2 front1 c.in_err-put_part.ensures.prefix))

pub returns-in_err-put_part-2-clause-prefix : goal.returns-in_err-put_part-2-clause-prefix
returns-in_err-put_part-2-clause-prefix g c =
    let f = c.args.frame.now in
    let h = c.args.chart.now in
    let t1 : List ℕ = f.top in
    let t2 : List ℕ = texts_of part.Bars h in
    let t3 : List ℕ = texts_of part.Marks h in
    let t4 : List ℕ = f.owed in
    let t5 : List ℕ = texts_of part.Owed h in
    let t6 : List ℕ = f.middle in
    let t7 : List ℕ = texts_of part.Collector h in
    let t8 : List ℕ = f.between in
    let t9 : List ℕ = texts_of part.Idle h in
    let t10 : List ℕ = f.bottom in
    let front1 = begun _ _ c.new-gather.result t1 c.put_text.new.gather c.new-gather.ensures c.in_ok-put_text.ensures.ok in
    let front2 = AppendsFront-trans _ _ _ ([] ++ t1) c.put_text.new.gather t2 c.put_part.new.gather front1 c.in_ok-put_part.ensures.ok in
    let p = err_from_is_err_and c.from_residual-in_err-put_part-2.result c.from_residual-in_err-put_part-2.ensures.1 in
    rw p.1 (after3 _ _ t1 t2 t3 t4 t5 t6 t7 t8 t9 t10 (AppendsPrefix-behind _ _ _ ([] ++ t1 ++ t2) c.put_part.new.gather t3 front2 c.in_err-put_part-2.ensures.prefix))

pub returns-in_err-put_text-2-clause-prefix : goal.returns-in_err-put_text-2-clause-prefix
returns-in_err-put_text-2-clause-prefix g c =
    let f = c.args.frame.now in
    let h = c.args.chart.now in
    let t1 : List ℕ = f.top in
    let t2 : List ℕ = texts_of part.Bars h in
    let t3 : List ℕ = texts_of part.Marks h in
    let t4 : List ℕ = f.owed in
    let t5 : List ℕ = texts_of part.Owed h in
    let t6 : List ℕ = f.middle in
    let t7 : List ℕ = texts_of part.Collector h in
    let t8 : List ℕ = f.between in
    let t9 : List ℕ = texts_of part.Idle h in
    let t10 : List ℕ = f.bottom in
    let front1 = begun _ _ c.new-gather.result t1 c.put_text.new.gather c.new-gather.ensures c.in_ok-put_text.ensures.ok in
    let front2 = AppendsFront-trans _ _ _ ([] ++ t1) c.put_text.new.gather t2 c.put_part.new.gather front1 c.in_ok-put_part.ensures.ok in
    let front3 = AppendsFront-trans _ _ _ ([] ++ t1 ++ t2) c.put_part.new.gather t3 c.put_part-2.new.gather front2 c.in_ok-put_part-2.ensures.ok in
    let p = err_from_is_err_and c.from_residual-in_err-put_text-2.result c.from_residual-in_err-put_text-2.ensures.1 in
    rw p.1 (after4 _ _ t1 t2 t3 t4 t5 t6 t7 t8 t9 t10 (AppendsPrefix-behind _ _ _ ([] ++ t1 ++ t2 ++ t3) c.put_part-2.new.gather t4 front3 c.in_err-put_text-2.ensures.prefix))

pub returns-in_err-put_part-3-clause-prefix : goal.returns-in_err-put_part-3-clause-prefix
returns-in_err-put_part-3-clause-prefix g c =
    let f = c.args.frame.now in
    let h = c.args.chart.now in
    let t1 : List ℕ = f.top in
    let t2 : List ℕ = texts_of part.Bars h in
    let t3 : List ℕ = texts_of part.Marks h in
    let t4 : List ℕ = f.owed in
    let t5 : List ℕ = texts_of part.Owed h in
    let t6 : List ℕ = f.middle in
    let t7 : List ℕ = texts_of part.Collector h in
    let t8 : List ℕ = f.between in
    let t9 : List ℕ = texts_of part.Idle h in
    let t10 : List ℕ = f.bottom in
    let front1 = begun _ _ c.new-gather.result t1 c.put_text.new.gather c.new-gather.ensures c.in_ok-put_text.ensures.ok in
    let front2 = AppendsFront-trans _ _ _ ([] ++ t1) c.put_text.new.gather t2 c.put_part.new.gather front1 c.in_ok-put_part.ensures.ok in
    let front3 = AppendsFront-trans _ _ _ ([] ++ t1 ++ t2) c.put_part.new.gather t3 c.put_part-2.new.gather front2 c.in_ok-put_part-2.ensures.ok in
    let front4 = AppendsFront-trans _ _ _ ([] ++ t1 ++ t2 ++ t3) c.put_part-2.new.gather t4 c.put_text-2.new.gather front3 c.in_ok-put_text-2.ensures.ok in
    let p = err_from_is_err_and c.from_residual-in_err-put_part-3.result c.from_residual-in_err-put_part-3.ensures.1 in
    rw p.1 (after5 _ _ t1 t2 t3 t4 t5 t6 t7 t8 t9 t10 (AppendsPrefix-behind _ _ _ ([] ++ t1 ++ t2 ++ t3 ++ t4) c.put_text-2.new.gather t5 front4 c.in_err-put_part-3.ensures.prefix))

pub returns-in_err-put_text-3-clause-prefix : goal.returns-in_err-put_text-3-clause-prefix
returns-in_err-put_text-3-clause-prefix g c =
    let f = c.args.frame.now in
    let h = c.args.chart.now in
    let t1 : List ℕ = f.top in
    let t2 : List ℕ = texts_of part.Bars h in
    let t3 : List ℕ = texts_of part.Marks h in
    let t4 : List ℕ = f.owed in
    let t5 : List ℕ = texts_of part.Owed h in
    let t6 : List ℕ = f.middle in
    let t7 : List ℕ = texts_of part.Collector h in
    let t8 : List ℕ = f.between in
    let t9 : List ℕ = texts_of part.Idle h in
    let t10 : List ℕ = f.bottom in
    let front1 = begun _ _ c.new-gather.result t1 c.put_text.new.gather c.new-gather.ensures c.in_ok-put_text.ensures.ok in
    let front2 = AppendsFront-trans _ _ _ ([] ++ t1) c.put_text.new.gather t2 c.put_part.new.gather front1 c.in_ok-put_part.ensures.ok in
    let front3 = AppendsFront-trans _ _ _ ([] ++ t1 ++ t2) c.put_part.new.gather t3 c.put_part-2.new.gather front2 c.in_ok-put_part-2.ensures.ok in
    let front4 = AppendsFront-trans _ _ _ ([] ++ t1 ++ t2 ++ t3) c.put_part-2.new.gather t4 c.put_text-2.new.gather front3 c.in_ok-put_text-2.ensures.ok in
    let front5 = AppendsFront-trans _ _ _ ([] ++ t1 ++ t2 ++ t3 ++ t4) c.put_text-2.new.gather t5 c.put_part-3.new.gather front4 c.in_ok-put_part-3.ensures.ok in
    let p = err_from_is_err_and c.from_residual-in_err-put_text-3.result c.from_residual-in_err-put_text-3.ensures.1 in
    rw p.1 (after6 _ _ t1 t2 t3 t4 t5 t6 t7 t8 t9 t10 (AppendsPrefix-behind _ _ _ ([] ++ t1 ++ t2 ++ t3 ++ t4 ++ t5) c.put_part-3.new.gather t6 front5 c.in_err-put_text-3.ensures.prefix))

pub returns-in_err-put_part-4-clause-prefix : goal.returns-in_err-put_part-4-clause-prefix
returns-in_err-put_part-4-clause-prefix g c =
    let f = c.args.frame.now in
    let h = c.args.chart.now in
    let t1 : List ℕ = f.top in
    let t2 : List ℕ = texts_of part.Bars h in
    let t3 : List ℕ = texts_of part.Marks h in
    let t4 : List ℕ = f.owed in
    let t5 : List ℕ = texts_of part.Owed h in
    let t6 : List ℕ = f.middle in
    let t7 : List ℕ = texts_of part.Collector h in
    let t8 : List ℕ = f.between in
    let t9 : List ℕ = texts_of part.Idle h in
    let t10 : List ℕ = f.bottom in
    let front1 = begun _ _ c.new-gather.result t1 c.put_text.new.gather c.new-gather.ensures c.in_ok-put_text.ensures.ok in
    let front2 = AppendsFront-trans _ _ _ ([] ++ t1) c.put_text.new.gather t2 c.put_part.new.gather front1 c.in_ok-put_part.ensures.ok in
    let front3 = AppendsFront-trans _ _ _ ([] ++ t1 ++ t2) c.put_part.new.gather t3 c.put_part-2.new.gather front2 c.in_ok-put_part-2.ensures.ok in
    let front4 = AppendsFront-trans _ _ _ ([] ++ t1 ++ t2 ++ t3) c.put_part-2.new.gather t4 c.put_text-2.new.gather front3 c.in_ok-put_text-2.ensures.ok in
    let front5 = AppendsFront-trans _ _ _ ([] ++ t1 ++ t2 ++ t3 ++ t4) c.put_text-2.new.gather t5 c.put_part-3.new.gather front4 c.in_ok-put_part-3.ensures.ok in
    let front6 = AppendsFront-trans _ _ _ ([] ++ t1 ++ t2 ++ t3 ++ t4 ++ t5) c.put_part-3.new.gather t6 c.put_text-3.new.gather front5 c.in_ok-put_text-3.ensures.ok in
    let p = err_from_is_err_and c.from_residual-in_err-put_part-4.result c.from_residual-in_err-put_part-4.ensures.1 in
    rw p.1 (after7 _ _ t1 t2 t3 t4 t5 t6 t7 t8 t9 t10 (AppendsPrefix-behind _ _ _ ([] ++ t1 ++ t2 ++ t3 ++ t4 ++ t5 ++ t6) c.put_text-3.new.gather t7 front6 c.in_err-put_part-4.ensures.prefix))

pub returns-in_err-put_text-4-clause-prefix : goal.returns-in_err-put_text-4-clause-prefix
returns-in_err-put_text-4-clause-prefix g c =
    let f = c.args.frame.now in
    let h = c.args.chart.now in
    let t1 : List ℕ = f.top in
    let t2 : List ℕ = texts_of part.Bars h in
    let t3 : List ℕ = texts_of part.Marks h in
    let t4 : List ℕ = f.owed in
    let t5 : List ℕ = texts_of part.Owed h in
    let t6 : List ℕ = f.middle in
    let t7 : List ℕ = texts_of part.Collector h in
    let t8 : List ℕ = f.between in
    let t9 : List ℕ = texts_of part.Idle h in
    let t10 : List ℕ = f.bottom in
    let front1 = begun _ _ c.new-gather.result t1 c.put_text.new.gather c.new-gather.ensures c.in_ok-put_text.ensures.ok in
    let front2 = AppendsFront-trans _ _ _ ([] ++ t1) c.put_text.new.gather t2 c.put_part.new.gather front1 c.in_ok-put_part.ensures.ok in
    let front3 = AppendsFront-trans _ _ _ ([] ++ t1 ++ t2) c.put_part.new.gather t3 c.put_part-2.new.gather front2 c.in_ok-put_part-2.ensures.ok in
    let front4 = AppendsFront-trans _ _ _ ([] ++ t1 ++ t2 ++ t3) c.put_part-2.new.gather t4 c.put_text-2.new.gather front3 c.in_ok-put_text-2.ensures.ok in
    let front5 = AppendsFront-trans _ _ _ ([] ++ t1 ++ t2 ++ t3 ++ t4) c.put_text-2.new.gather t5 c.put_part-3.new.gather front4 c.in_ok-put_part-3.ensures.ok in
    let front6 = AppendsFront-trans _ _ _ ([] ++ t1 ++ t2 ++ t3 ++ t4 ++ t5) c.put_part-3.new.gather t6 c.put_text-3.new.gather front5 c.in_ok-put_text-3.ensures.ok in
    let front7 = AppendsFront-trans _ _ _ ([] ++ t1 ++ t2 ++ t3 ++ t4 ++ t5 ++ t6) c.put_text-3.new.gather t7 c.put_part-4.new.gather front6 c.in_ok-put_part-4.ensures.ok in
    let p = err_from_is_err_and c.from_residual-in_err-put_text-4.result c.from_residual-in_err-put_text-4.ensures.1 in
    rw p.1 (after8 _ _ t1 t2 t3 t4 t5 t6 t7 t8 t9 t10 (AppendsPrefix-behind _ _ _ ([] ++ t1 ++ t2 ++ t3 ++ t4 ++ t5 ++ t6 ++ t7) c.put_part-4.new.gather t8 front7 c.in_err-put_text-4.ensures.prefix))

pub returns-in_err-put_part-5-clause-prefix : goal.returns-in_err-put_part-5-clause-prefix
returns-in_err-put_part-5-clause-prefix g c =
    let f = c.args.frame.now in
    let h = c.args.chart.now in
    let t1 : List ℕ = f.top in
    let t2 : List ℕ = texts_of part.Bars h in
    let t3 : List ℕ = texts_of part.Marks h in
    let t4 : List ℕ = f.owed in
    let t5 : List ℕ = texts_of part.Owed h in
    let t6 : List ℕ = f.middle in
    let t7 : List ℕ = texts_of part.Collector h in
    let t8 : List ℕ = f.between in
    let t9 : List ℕ = texts_of part.Idle h in
    let t10 : List ℕ = f.bottom in
    let front1 = begun _ _ c.new-gather.result t1 c.put_text.new.gather c.new-gather.ensures c.in_ok-put_text.ensures.ok in
    let front2 = AppendsFront-trans _ _ _ ([] ++ t1) c.put_text.new.gather t2 c.put_part.new.gather front1 c.in_ok-put_part.ensures.ok in
    let front3 = AppendsFront-trans _ _ _ ([] ++ t1 ++ t2) c.put_part.new.gather t3 c.put_part-2.new.gather front2 c.in_ok-put_part-2.ensures.ok in
    let front4 = AppendsFront-trans _ _ _ ([] ++ t1 ++ t2 ++ t3) c.put_part-2.new.gather t4 c.put_text-2.new.gather front3 c.in_ok-put_text-2.ensures.ok in
    let front5 = AppendsFront-trans _ _ _ ([] ++ t1 ++ t2 ++ t3 ++ t4) c.put_text-2.new.gather t5 c.put_part-3.new.gather front4 c.in_ok-put_part-3.ensures.ok in
    let front6 = AppendsFront-trans _ _ _ ([] ++ t1 ++ t2 ++ t3 ++ t4 ++ t5) c.put_part-3.new.gather t6 c.put_text-3.new.gather front5 c.in_ok-put_text-3.ensures.ok in
    let front7 = AppendsFront-trans _ _ _ ([] ++ t1 ++ t2 ++ t3 ++ t4 ++ t5 ++ t6) c.put_text-3.new.gather t7 c.put_part-4.new.gather front6 c.in_ok-put_part-4.ensures.ok in
    let front8 = AppendsFront-trans _ _ _ ([] ++ t1 ++ t2 ++ t3 ++ t4 ++ t5 ++ t6 ++ t7) c.put_part-4.new.gather t8 c.put_text-4.new.gather front7 c.in_ok-put_text-4.ensures.ok in
    let p = err_from_is_err_and c.from_residual-in_err-put_part-5.result c.from_residual-in_err-put_part-5.ensures.1 in
    rw p.1 (after9 _ _ t1 t2 t3 t4 t5 t6 t7 t8 t9 t10 (AppendsPrefix-behind _ _ _ ([] ++ t1 ++ t2 ++ t3 ++ t4 ++ t5 ++ t6 ++ t7 ++ t8) c.put_text-4.new.gather t9 front8 c.in_err-put_part-5.ensures.prefix))

pub returns-in_err-put_text-5-clause-prefix : goal.returns-in_err-put_text-5-clause-prefix
returns-in_err-put_text-5-clause-prefix g c =
    let f = c.args.frame.now in
    let h = c.args.chart.now in
    let t1 : List ℕ = f.top in
    let t2 : List ℕ = texts_of part.Bars h in
    let t3 : List ℕ = texts_of part.Marks h in
    let t4 : List ℕ = f.owed in
    let t5 : List ℕ = texts_of part.Owed h in
    let t6 : List ℕ = f.middle in
    let t7 : List ℕ = texts_of part.Collector h in
    let t8 : List ℕ = f.between in
    let t9 : List ℕ = texts_of part.Idle h in
    let t10 : List ℕ = f.bottom in
    let front1 = begun _ _ c.new-gather.result t1 c.put_text.new.gather c.new-gather.ensures c.in_ok-put_text.ensures.ok in
    let front2 = AppendsFront-trans _ _ _ ([] ++ t1) c.put_text.new.gather t2 c.put_part.new.gather front1 c.in_ok-put_part.ensures.ok in
    let front3 = AppendsFront-trans _ _ _ ([] ++ t1 ++ t2) c.put_part.new.gather t3 c.put_part-2.new.gather front2 c.in_ok-put_part-2.ensures.ok in
    let front4 = AppendsFront-trans _ _ _ ([] ++ t1 ++ t2 ++ t3) c.put_part-2.new.gather t4 c.put_text-2.new.gather front3 c.in_ok-put_text-2.ensures.ok in
    let front5 = AppendsFront-trans _ _ _ ([] ++ t1 ++ t2 ++ t3 ++ t4) c.put_text-2.new.gather t5 c.put_part-3.new.gather front4 c.in_ok-put_part-3.ensures.ok in
    let front6 = AppendsFront-trans _ _ _ ([] ++ t1 ++ t2 ++ t3 ++ t4 ++ t5) c.put_part-3.new.gather t6 c.put_text-3.new.gather front5 c.in_ok-put_text-3.ensures.ok in
    let front7 = AppendsFront-trans _ _ _ ([] ++ t1 ++ t2 ++ t3 ++ t4 ++ t5 ++ t6) c.put_text-3.new.gather t7 c.put_part-4.new.gather front6 c.in_ok-put_part-4.ensures.ok in
    let front8 = AppendsFront-trans _ _ _ ([] ++ t1 ++ t2 ++ t3 ++ t4 ++ t5 ++ t6 ++ t7) c.put_part-4.new.gather t8 c.put_text-4.new.gather front7 c.in_ok-put_text-4.ensures.ok in
    let front9 = AppendsFront-trans _ _ _ ([] ++ t1 ++ t2 ++ t3 ++ t4 ++ t5 ++ t6 ++ t7 ++ t8) c.put_text-4.new.gather t9 c.put_part-5.new.gather front8 c.in_ok-put_part-5.ensures.ok in
    let p = err_from_is_err_and c.from_residual-in_err-put_text-5.result c.from_residual-in_err-put_text-5.ensures.1 in
    rw p.1 (AppendsPrefix-behind _ _ _ ([] ++ t1 ++ t2 ++ t3 ++ t4 ++ t5 ++ t6 ++ t7 ++ t8 ++ t9) c.put_part-5.new.gather t10 front9 c.in_err-put_text-5.ensures.prefix)

pub returns-clause-ok : goal.returns-clause-ok
returns-clause-ok g c =
    let f = c.args.frame.now in
    let h = c.args.chart.now in
    let t1 : List ℕ = f.top in
    let t2 : List ℕ = texts_of part.Bars h in
    let t3 : List ℕ = texts_of part.Marks h in
    let t4 : List ℕ = f.owed in
    let t5 : List ℕ = texts_of part.Owed h in
    let t6 : List ℕ = f.middle in
    let t7 : List ℕ = texts_of part.Collector h in
    let t8 : List ℕ = f.between in
    let t9 : List ℕ = texts_of part.Idle h in
    let t10 : List ℕ = f.bottom in
    let front1 = begun _ _ c.new-gather.result t1 c.put_text.new.gather c.new-gather.ensures c.in_ok-put_text.ensures.ok in
    let front2 = AppendsFront-trans _ _ _ ([] ++ t1) c.put_text.new.gather t2 c.put_part.new.gather front1 c.in_ok-put_part.ensures.ok in
    let front3 = AppendsFront-trans _ _ _ ([] ++ t1 ++ t2) c.put_part.new.gather t3 c.put_part-2.new.gather front2 c.in_ok-put_part-2.ensures.ok in
    let front4 = AppendsFront-trans _ _ _ ([] ++ t1 ++ t2 ++ t3) c.put_part-2.new.gather t4 c.put_text-2.new.gather front3 c.in_ok-put_text-2.ensures.ok in
    let front5 = AppendsFront-trans _ _ _ ([] ++ t1 ++ t2 ++ t3 ++ t4) c.put_text-2.new.gather t5 c.put_part-3.new.gather front4 c.in_ok-put_part-3.ensures.ok in
    let front6 = AppendsFront-trans _ _ _ ([] ++ t1 ++ t2 ++ t3 ++ t4 ++ t5) c.put_part-3.new.gather t6 c.put_text-3.new.gather front5 c.in_ok-put_text-3.ensures.ok in
    let front7 = AppendsFront-trans _ _ _ ([] ++ t1 ++ t2 ++ t3 ++ t4 ++ t5 ++ t6) c.put_text-3.new.gather t7 c.put_part-4.new.gather front6 c.in_ok-put_part-4.ensures.ok in
    let front8 = AppendsFront-trans _ _ _ ([] ++ t1 ++ t2 ++ t3 ++ t4 ++ t5 ++ t6 ++ t7) c.put_part-4.new.gather t8 c.put_text-4.new.gather front7 c.in_ok-put_text-4.ensures.ok in
    let front9 = AppendsFront-trans _ _ _ ([] ++ t1 ++ t2 ++ t3 ++ t4 ++ t5 ++ t6 ++ t7 ++ t8) c.put_text-4.new.gather t9 c.put_part-5.new.gather front8 c.in_ok-put_part-5.ensures.ok in
    let front10 = AppendsFront-trans _ _ _ ([] ++ t1 ++ t2 ++ t3 ++ t4 ++ t5 ++ t6 ++ t7 ++ t8 ++ t9) c.put_part-5.new.gather t10 c.put_text-5.new.gather front9 c.in_ok-put_text-5.ensures.ok in
    on_ok_weaker c.flush.result (Appends-all _ _ _ ([] ++ t1 ++ t2 ++ t3 ++ t4 ++ t5 ++ t6 ++ t7 ++ t8 ++ t9 ++ t10) c.put_text-5.new.gather front10) c.flush.ensures.ok

pub returns-clause-prefix : goal.returns-clause-prefix
returns-clause-prefix g c =
    let f = c.args.frame.now in
    let h = c.args.chart.now in
    let t1 : List ℕ = f.top in
    let t2 : List ℕ = texts_of part.Bars h in
    let t3 : List ℕ = texts_of part.Marks h in
    let t4 : List ℕ = f.owed in
    let t5 : List ℕ = texts_of part.Owed h in
    let t6 : List ℕ = f.middle in
    let t7 : List ℕ = texts_of part.Collector h in
    let t8 : List ℕ = f.between in
    let t9 : List ℕ = texts_of part.Idle h in
    let t10 : List ℕ = f.bottom in
    let front1 = begun _ _ c.new-gather.result t1 c.put_text.new.gather c.new-gather.ensures c.in_ok-put_text.ensures.ok in
    let front2 = AppendsFront-trans _ _ _ ([] ++ t1) c.put_text.new.gather t2 c.put_part.new.gather front1 c.in_ok-put_part.ensures.ok in
    let front3 = AppendsFront-trans _ _ _ ([] ++ t1 ++ t2) c.put_part.new.gather t3 c.put_part-2.new.gather front2 c.in_ok-put_part-2.ensures.ok in
    let front4 = AppendsFront-trans _ _ _ ([] ++ t1 ++ t2 ++ t3) c.put_part-2.new.gather t4 c.put_text-2.new.gather front3 c.in_ok-put_text-2.ensures.ok in
    let front5 = AppendsFront-trans _ _ _ ([] ++ t1 ++ t2 ++ t3 ++ t4) c.put_text-2.new.gather t5 c.put_part-3.new.gather front4 c.in_ok-put_part-3.ensures.ok in
    let front6 = AppendsFront-trans _ _ _ ([] ++ t1 ++ t2 ++ t3 ++ t4 ++ t5) c.put_part-3.new.gather t6 c.put_text-3.new.gather front5 c.in_ok-put_text-3.ensures.ok in
    let front7 = AppendsFront-trans _ _ _ ([] ++ t1 ++ t2 ++ t3 ++ t4 ++ t5 ++ t6) c.put_text-3.new.gather t7 c.put_part-4.new.gather front6 c.in_ok-put_part-4.ensures.ok in
    let front8 = AppendsFront-trans _ _ _ ([] ++ t1 ++ t2 ++ t3 ++ t4 ++ t5 ++ t6 ++ t7) c.put_part-4.new.gather t8 c.put_text-4.new.gather front7 c.in_ok-put_text-4.ensures.ok in
    let front9 = AppendsFront-trans _ _ _ ([] ++ t1 ++ t2 ++ t3 ++ t4 ++ t5 ++ t6 ++ t7 ++ t8) c.put_text-4.new.gather t9 c.put_part-5.new.gather front8 c.in_ok-put_part-5.ensures.ok in
    let front10 = AppendsFront-trans _ _ _ ([] ++ t1 ++ t2 ++ t3 ++ t4 ++ t5 ++ t6 ++ t7 ++ t8 ++ t9) c.put_part-5.new.gather t10 c.put_text-5.new.gather front9 c.in_ok-put_text-5.ensures.ok in
    on_err_weaker c.flush.result (AppendsPrefix-rest _ _ _ ([] ++ t1 ++ t2 ++ t3 ++ t4 ++ t5 ++ t6 ++ t7 ++ t8 ++ t9 ++ t10) c.put_text-5.new.gather front10) c.flush.ensures.prefix
