use Rattle.hk_keeper.proofs.tests.stepping.step.Given as goal

abbrev pub ghosts-fire : goal.ghosts-fire
ghosts-fire g a = record { deed = record { begins = a._begins; flight = a._flight.now } }
