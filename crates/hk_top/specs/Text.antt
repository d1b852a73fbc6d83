-- The lines of the report.
use Rattle.std.specs.Prelude.{ℕ, Bool, if◌then◌else◌, List, [], ◌∷◌, codes, decimal}
use Rattle.hk_front.specs.Text.{line}

-- the analysis of the heap: the events that a cycle of the collector takes at most, those of an attempt that a job can
-- spoil, the length of the busy period in ticks, and the events that the collector is behind at most
unfoldable pub heap_line : (work attempt busy debt : ℕ) → List ℕ
heap_line work attempt busy debt =
    line (codes "heap work" ∷ decimal work ∷ codes "attempt" ∷ decimal attempt ∷ codes "busy" ∷ decimal busy ∷ codes "debt" ∷ decimal debt ∷ [])

-- a high task's response time and its deadline, in ticks
unfoldable pub high_line : (name : List ℕ) → (response deadline : ℕ) → List ℕ
high_line name response deadline = line (codes "high" ∷ name ∷ codes "response" ∷ decimal response ∷ codes "deadline" ∷ decimal deadline ∷ [])

-- a low task
unfoldable pub low_line : (name : List ℕ) → List ℕ
low_line name = line (codes "low" ∷ name ∷ [])

-- at this tick this task put out this value
unfoldable pub out_line : (tick : ℕ) → (name : List ℕ) → (value : ℕ) → List ℕ
out_line tick name value = line (codes "out" ∷ decimal tick ∷ name ∷ decimal value ∷ [])

-- how many of a task's jobs ended, and the most ticks from the arrival of one of them to its end
unfoldable pub done_line : (name : List ℕ) → (jobs latest : ℕ) → List ℕ
done_line name jobs latest = line (codes "done" ∷ name ∷ codes "jobs" ∷ decimal jobs ∷ codes "latest" ∷ decimal latest ∷ [])

-- the collector's cycles that began, the ticks that it had, and the ticks that went to nobody
unfoldable pub cycles_line : (cycles collector idle : ℕ) → List ℕ
cycles_line cycles collector idle = line (codes "cycles" ∷ decimal cycles ∷ codes "collector" ∷ decimal collector ∷ codes "idle" ∷ decimal idle ∷ [])

-- the ticks of the run
unfoldable pub end_line : (ticks : ℕ) → List ℕ
end_line ticks = line (codes "end" ∷ decimal ticks ∷ [])

-- at this tick a job of this task ended with a fault at this statement of its script: the register that it went through was
-- null, or the object had no such field
unfoldable pub fault_line : (tick : ℕ) → (name : List ℕ) → (job statement : ℕ) → (nil : Bool) → List ℕ
fault_line tick name job statement nil =
    line (codes "fault" ∷ decimal tick ∷ name ∷ decimal job ∷ decimal statement ∷ (if nil then codes "nil" else codes "field") ∷ [])

-- at this tick this job of this task ended, so many ticks after it arrived
unfoldable pub ended_line : (tick : ℕ) → (name : List ℕ) → (job ticks : ℕ) → List ℕ
ended_line tick name job ticks = line (codes "ended" ∷ decimal tick ∷ name ∷ decimal job ∷ decimal ticks ∷ [])

-- who got this tick: a task, by its kind and its name; the collector, by what its event was; or nobody
unfoldable pub task_line : (tick : ℕ) → (kind name : List ℕ) → List ℕ
task_line tick kind name = line (codes "t" ∷ decimal tick ∷ kind ∷ name ∷ [])

unfoldable pub event_line : (tick : ℕ) → (event : List ℕ) → List ℕ
event_line tick event = line (codes "t" ∷ decimal tick ∷ codes "gc" ∷ event ∷ [])

unfoldable pub lost_line : (tick events : ℕ) → List ℕ
lost_line tick events = line (codes "t" ∷ decimal tick ∷ codes "gc lost" ∷ decimal events ∷ [])

unfoldable pub idle_line : (tick : ℕ) → List ℕ
idle_line tick = line (codes "t" ∷ decimal tick ∷ codes "idle" ∷ [])

-- at this tick the collector found so many words reserved, more than the space has for evacuation
unfoldable pub live_line : (tick words limit : ℕ) → List ℕ
live_line tick words limit = line (codes "live" ∷ decimal tick ∷ decimal words ∷ codes "above" ∷ decimal limit ∷ [])
