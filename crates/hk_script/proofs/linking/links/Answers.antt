use Rattle.std.proofs.Common.{◌≡◌, ◌-◌, ◌∙◌, ℕ, [], List, length, drop, get_or, refl, ap, subst, arith}
use Rattle.std.proofs.lemmas.List.{length-set}
use Rattle.hk_script.specs.declared.linking.Around.{Around}
use Rattle.hk_script.specs.Links.{links_of}
use Rattle.hk_script.specs.Steps.{seen_ways}
use Rattle.hk_script.proofs.Linked.{links_at, ways_step, ways_room, links_step, ways_end, links_end, length-arounds}
use Rattle.hk_script.proofs.linking.links.Goals as goal

pub loop-place-init : goal.loop-place-init
loop-place-init c =
    let s = c.args.statements.now in
    let long : length c.in_ok-all.all.items ≡ length s = let len = c.in_ok-all.ensures.len in omega (arith, len, c.in_ok-all.all.ok.0) in
    record {
      within = omega arith;
      around = c.in_ok-arounds.ensures;
      long = long;
      ways = rw c.new.ensures (ways_end s (length s) refl);
      links = links_end s (length s) c.in_ok-all.all.items refl long;
    }

pub index-around-requires : goal.index-around-requires
index-around-requires c =
    let i = c.loop-place.invariant in
    let within = i.within in
    omega (arith, ap length i.around, length-arounds [] 0 c.args.statements.now, c.in_ok-arounds.arounds.ok.0)

pub put_in_front-requires : goal.put_in_front-requires
put_in_front-requires c =
    let i = c.loop-place.invariant in
    let near = subst (λ (t : List Around). c.index-around.result.now ≡ get_or t (c.loop-place.place - 1) c.index-around.result.now) i.around c.index-around.ensures in
    ways_room c.args.statements.now c.loop-place.place c.index-statements-place.result c.index-around.result.now (seen_ways c.loop-place.places) c.requires (omega arith) i.within c.index-statements-place.is near i.ways

pub loop-place-preserved : goal.loop-place-preserved
loop-place-preserved c =
    let i = c.loop-place.invariant in
    let s = c.args.statements.now in
    let x = c.index-statements-place.result in
    let a = c.index-around.result.now in
    let old = seen_ways c.loop-place.places in
    let near = subst (λ (t : List Around). a ≡ get_or t (c.loop-place.place - 1) a) i.around c.index-around.ensures in
    let linked = links_step s c.loop-place.place x a old c.requires (omega arith) i.within c.index-statements-place.is near i.ways c.loop-place.all.items i.long i.links in
    record {
      within = let w = i.within in omega arith;
      around = i.around;
      long = length-set c.loop-place.all.items (c.loop-place.place - 1) c.link_from.result ∙ i.long;
      ways = c.put_in_front.ensures ∙ ways_step s c.loop-place.place x a old c.requires (omega arith) i.within c.index-statements-place.is near i.ways;
      links = rw c.link_from.ensures linked;
    }

pub returns : goal.returns
unfolding links_of
returns c =
    let i = c.loop-place.invariant in
    let none : c.loop-place.place ≡ 0 = omega arith in
    subst (λ (n : ℕ). drop n c.loop-place.all.items ≡ links_at c.args.statements.now n) none i.links
