-- What a script may name: fields of an object, and registers of a task.
use Rattle.std.specs.Prelude.{◌≡◌, ◌⊎◌, ℕ, ◌≤◌}
use Rattle.hk_script.specs.declared.limits.Limits.{Limits}

-- the limits of objects with at most so many fields, and tasks with so many registers
abbrev pub limits_of : (fields registers : ℕ) → Limits
limits_of fields registers = record { fields = fields; registers = registers }

-- the usual limits
abbrev pub usual : Limits
usual = limits_of 62 8

-- the widest limits
abbrev pub widest : Limits
widest = limits_of 254 32

-- limits that scripts are read with: the usual ones, or those of larger objects and 2 to 32 registers
abbrev pub AreLimits : Limits → Type 0
AreLimits limits = ((limits.fields ≡ 62) × (limits.registers ≡ 8)) ⊎ ((limits.fields ≡ 254) × (2 ≤ limits.registers) × (limits.registers ≤ 32))

-- each limit is at most the other's
abbrev pub AreWithin : Limits → Limits → Type 0
AreWithin wide narrow = (narrow.fields ≤ wide.fields) × (narrow.registers ≤ wide.registers)
