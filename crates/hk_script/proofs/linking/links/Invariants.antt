-- The ways from the place on, and the links.
use Rattle.std.proofs.Common.{◌≡◌, ◌≤◌, [], length, drop}
use Rattle.hk_script.specs.Links.{arounds}
use Rattle.hk_script.specs.Steps.{seen_ways}
use Rattle.hk_script.proofs.Linked.{ways_at, links_at}
use Rattle.hk_script.proofs.linking.links.Given as goal

abbrev pub invariant-loop-place : goal.invariant-loop-place
invariant-loop-place l = record {
  within : l.place ≤ length l.statements;
  around : l.arounds.items ≡ arounds [] 0 l.statements;
  long : length l.all.items ≡ length l.statements;
  ways : seen_ways l.places ≡ ways_at l.statements l.place;
  links : drop l.place l.all.items ≡ links_at l.statements l.place;
}

abbrev pub decreases-loop-place : goal.decreases-loop-place
decreases-loop-place l = l.place
