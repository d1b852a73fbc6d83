-- What is known of the work in a window before the window is.
use Rattle.std.specs.Prelude.{ℕ, ◌+◌, ◌*◌, ◌≤◌, ◌^◌}
use Rattle.hk_rta.specs.declared.ahead.Need.{Need}

-- of so many ticks of work in a window at least the needed ones are, and the needed share of the window, of which 2^32 are the whole
abbrev pub Holds : Need → (window total : ℕ) → Type 0
Holds need window total = need.ticks * 2 ^ 32 + window * need.share ≤ total * 2 ^ 32
