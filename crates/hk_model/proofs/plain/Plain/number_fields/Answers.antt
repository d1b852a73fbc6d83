use Rattle.std.proofs.Common.{arith, ◌∙◌, ap}
use Rattle.hk_model.specs.Plain.{heap_in}
use Rattle.hk_words.specs.declared.shape.Shape.{Shape}
use Rattle.hk_model.proofs.Fields.{birth_within, nums_read}
use Rattle.hk_model.proofs.plain.Plain.number_fields.Goals as goal

pub index-requires : goal.index-requires
index-requires c = omega (arith, birth_within c.args.self.now (heap_in c.self.inside) c.args.birth c.self.view_is c.requires, c.self.inside.objects.ok.0)

pub returns : goal.returns
returns c =
    nums_read c.args.self.now (heap_in c.self.inside) c.args.birth c.nums.result c.index.result.now c.self.view_is c.requires c.index.ensures (c.nums.ensures ∙ ap (λ (s : Shape). s.nums) c.shape.ensures)
