-- Lines that are added in place, part by part.
use Rattle.std.proofs.Common.{◌≡◌, ℕ, List, [], ◌∷◌, ◌++◌, ap, ◌∙◌, append_assoc}
use Rattle.std.specs.Prelude.{Bool, codes, decimal, if◌then◌else◌}
use Rattle.hk_top.specs.Text.{task_line, event_line, idle_line, lost_line, out_line, fault_line, ended_line}

-- parts that are added one behind another are added as one
four_parts : (waiting a b c d : List ℕ) → (((waiting ++ a) ++ b) ++ c) ++ d ≡ waiting ++ (((a ++ b) ++ c) ++ d)
four_parts waiting a b c d =
    ap (λ x. (x ++ c) ++ d) (append_assoc waiting a b) ∙ ap (λ x. x ++ d) (append_assoc waiting (a ++ b) c) ∙ append_assoc waiting ((a ++ b) ++ c) d

five_parts : (waiting a b c d e : List ℕ) → ((((waiting ++ a) ++ b) ++ c) ++ d) ++ e ≡ waiting ++ ((((a ++ b) ++ c) ++ d) ++ e)
five_parts waiting a b c d e = ap (λ x. x ++ e) (four_parts waiting a b c d) ∙ append_assoc waiting (((a ++ b) ++ c) ++ d) e

pub task_parts : (waiting : List ℕ) (tick : ℕ) (kind name : List ℕ)
    → ((((waiting ++ codes "t ") ++ decimal tick) ++ 32 ∷ kind) ++ 32 ∷ name) ++ 10 ∷ [] ≡ waiting ++ task_line tick kind name
unfolding task_line
task_parts waiting tick kind name = five_parts waiting (codes "t ") (decimal tick) (32 ∷ kind) (32 ∷ name) (10 ∷ [])

pub event_parts : (waiting : List ℕ) (tick : ℕ) (event : List ℕ)
    → ((((waiting ++ codes "t ") ++ decimal tick) ++ 32 ∷ codes "gc") ++ 32 ∷ event) ++ 10 ∷ [] ≡ waiting ++ event_line tick event
unfolding event_line
event_parts waiting tick event = five_parts waiting (codes "t ") (decimal tick) (32 ∷ codes "gc") (32 ∷ event) (10 ∷ [])

pub idle_parts : (waiting : List ℕ) (tick : ℕ) → (((waiting ++ codes "t ") ++ decimal tick) ++ 32 ∷ codes "idle") ++ 10 ∷ [] ≡ waiting ++ idle_line tick
unfolding idle_line
idle_parts waiting tick = four_parts waiting (codes "t ") (decimal tick) (32 ∷ codes "idle") (10 ∷ [])

pub lost_parts : (waiting : List ℕ) (tick events : ℕ)
    → ((((waiting ++ codes "t ") ++ decimal tick) ++ 32 ∷ codes "gc lost") ++ 32 ∷ decimal events) ++ 10 ∷ [] ≡ waiting ++ lost_line tick events
unfolding lost_line
lost_parts waiting tick events = five_parts waiting (codes "t ") (decimal tick) (32 ∷ codes "gc lost") (32 ∷ decimal events) (10 ∷ [])

pub out_parts : (waiting : List ℕ) (tick : ℕ) (name : List ℕ) (value : ℕ)
    → ((((waiting ++ codes "out") ++ 32 ∷ decimal tick) ++ 32 ∷ name) ++ 32 ∷ decimal value) ++ 10 ∷ [] ≡ waiting ++ out_line tick name value
unfolding out_line
out_parts waiting tick name value = five_parts waiting (codes "out") (32 ∷ decimal tick) (32 ∷ name) (32 ∷ decimal value) (10 ∷ [])

six_parts : (waiting a b c d e f : List ℕ) → (((((waiting ++ a) ++ b) ++ c) ++ d) ++ e) ++ f ≡ waiting ++ (((((a ++ b) ++ c) ++ d) ++ e) ++ f)
six_parts waiting a b c d e f = ap (λ x. x ++ f) (five_parts waiting a b c d e) ∙ append_assoc waiting ((((a ++ b) ++ c) ++ d) ++ e) f

seven_parts : (waiting a b c d e f g : List ℕ) → ((((((waiting ++ a) ++ b) ++ c) ++ d) ++ e) ++ f) ++ g ≡ waiting ++ ((((((a ++ b) ++ c) ++ d) ++ e) ++ f) ++ g)
seven_parts waiting a b c d e f g = ap (λ x. x ++ g) (six_parts waiting a b c d e f) ∙ append_assoc waiting (((((a ++ b) ++ c) ++ d) ++ e) ++ f) g

pub ended_parts : (waiting : List ℕ) (tick : ℕ) (name : List ℕ) (job ticks : ℕ)
    → (((((waiting ++ codes "ended") ++ 32 ∷ decimal tick) ++ 32 ∷ name) ++ 32 ∷ decimal job) ++ 32 ∷ decimal ticks) ++ 10 ∷ [] ≡ waiting ++ ended_line tick name job ticks
unfolding ended_line
ended_parts waiting tick name job ticks = six_parts waiting (codes "ended") (32 ∷ decimal tick) (32 ∷ name) (32 ∷ decimal job) (32 ∷ decimal ticks) (10 ∷ [])

pub fault_parts : (waiting : List ℕ) (tick : ℕ) (name : List ℕ) (job statement : ℕ) (nil : Bool)
    → ((((((waiting ++ codes "fault") ++ 32 ∷ decimal tick) ++ 32 ∷ name) ++ 32 ∷ decimal job) ++ 32 ∷ decimal statement) ++ 32 ∷ (if nil then codes "nil" else codes "field")) ++ 10 ∷ []
    ≡ waiting ++ fault_line tick name job statement nil
unfolding fault_line
fault_parts waiting tick name job statement nil =
    seven_parts waiting (codes "fault") (32 ∷ decimal tick) (32 ∷ name) (32 ∷ decimal job) (32 ∷ decimal statement) (32 ∷ (if nil then codes "nil" else codes "field")) (10 ∷ [])
