use Rattle.hk_collect.proofs.EachLine.{lawful_collected}
use Rattle.hk_collect.proofs.Running.{geometry_from_opening, lawful_from_opening, legal_from_opening}
use Rattle.hk_collect.proofs.laws.runs_are_lawful.Goals as goal

pub returns-clause-collector : goal.returns-clause-collector
returns-clause-collector c = λ state history h. lawful_collected state history h

pub returns-clause-runs : goal.returns-clause-runs
returns-clause-runs c = λ g actions. lawful_from_opening g actions

pub returns-clause-legal : goal.returns-clause-legal
returns-clause-legal c = λ g actions. legal_from_opening g actions

pub returns-clause-geometry : goal.returns-clause-geometry
returns-clause-geometry c = λ g actions. geometry_from_opening g actions
