-- The heap that a `Plain` is.
use Rattle.hk_model.specs.Heap.{Heap, IsPlain}
use Rattle.hk_model.specs.declared.plain.Plain.TheInside.{Inside}

-- its objects and its registers
abbrev pub heap_in : Inside → Heap
heap_in p = record { objects = p.objects.items; registers = p.registers.items }

-- it is one that every call keeps
abbrev pub IsKept : Inside → Type 0
IsKept p = IsPlain (heap_in p)
