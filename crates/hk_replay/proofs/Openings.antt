-- The first line of a log, and the geometry that it says.
use Rattle.std.proofs.Common.{◌≡◌, ℕ, ◌+◌, ◌%◌, ◌^◌, ◌≤◌, Bool, true, false, cond, List, [], ◌∷◌, Option, Some, None, refl, sym, ◌∙◌, subst, arith}
use Rattle.std.specs.Prelude.{codes, nat_lt, not, ◌||◌, ◌==◌}
use Rattle.std.specs.List.{AllZip}
use Rattle.std.proofs.lemmas.Bool.Decides.{nat_tests}
use Rattle.hk_words.specs.declared.geometry.Geometry.{Geometry}
use Rattle.hk_words.specs.declared.geometry.GeoError.{GeoError}
use Rattle.hk_words.specs.declared.geometry.TheConstants.{REGISTERS}
use Rattle.hk_words.specs.declared.shape.TheConstants.{USUAL_FIELDS}
use Rattle.hk_words.specs.Geometry.{Sizes, first_error, HasSizes}
use Rattle.hk_words.proofs.OneGeometry.{one_geometry}
use Rattle.hk_replay.specs.declared.log_line.Heading.{Heading}
use Rattle.hk_replay.specs.Text.{words_of}
use Rattle.hk_replay.specs.Reading.{below, size_of, heading_by, heading_of, sizes_in, IsOfHeading}
use Rattle.hk_replay.specs.Spelling.{Piece, Exactly, Numeral, SpellsPiece, geometry_pieces, Opens}
use Rattle.hk_replay.proofs.Arguments.{some_is, bind_some, below_takes, below_again}
use Rattle.hk_replay.proofs.Calls.{choose, no_more}

-- words spell the numbers of a first line
abbrev heading_pieces : Heading → List Piece
heading_pieces h =
    Exactly (codes "heap") ∷ Numeral h.live ∷ Numeral h.alloc ∷ Numeral h.reserve ∷ Numeral h.high ∷ Numeral h.low
    ∷ Numeral h.refs ∷ Numeral h.nums ∷ []

heading_by_takes : (name a b c d e f g : List ℕ) (h : Heading) → name ≡ codes "heap" → heading_by a b c d e f g ≡ Some h → AllZip SpellsPiece (name ∷ a ∷ b ∷ c ∷ d ∷ e ∷ f ∷ g ∷ []) (heading_pieces h)
unfolding heading_by
heading_by_takes name a b c d e f g h n is =
    let p0 = bind_some (below (2 ^ 32) a) _ h is in
    let p1 = bind_some (below (2 ^ 32) b) _ h p0.2 in
    let p2 = bind_some (below (2 ^ 32) c) _ h p1.2 in
    let p3 = bind_some (size_of d) _ h p2.2 in
    let p4 = bind_some (size_of e) _ h p3.2 in
    let p5 = bind_some (size_of f) _ h p4.2 in
    let p6 = bind_some (size_of g) _ h p5.2 in
    let made : Heading = record { live = p0.0; alloc = p1.0; reserve = p2.0; high = p3.0; low = p4.0; refs = p5.0; nums = p6.0 } in
    subst (λ (k : Heading). AllZip SpellsPiece (name ∷ a ∷ b ∷ c ∷ d ∷ e ∷ f ∷ g ∷ []) (heading_pieces k)) (some_is made h p6.2)
    (n, ((below_takes _ a p0.0 p0.1).0, ((below_takes _ b p1.0 p1.1).0, ((below_takes _ c p2.0 p2.1).0, ((below_takes _ d p3.0 p3.1).0, ((below_takes _ e p4.0 p4.1).0, ((below_takes _ f p5.0 p5.1).0, ((below_takes _ g p6.0 p6.1).0, tt))))))))

heading_takes : (ws : List (List ℕ)) (h : Heading) → heading_of ws ≡ Some h → AllZip SpellsPiece ws (heading_pieces h)
unfolding heading_of
heading_takes [] h e = absurd cc
heading_takes (n ∷ []) h e = absurd cc
heading_takes (n ∷ a ∷ []) h e = absurd cc
heading_takes (n ∷ a ∷ b ∷ []) h e = absurd cc
heading_takes (n ∷ a ∷ b ∷ c ∷ []) h e = absurd cc
heading_takes (n ∷ a ∷ b ∷ c ∷ d ∷ []) h e = absurd cc
heading_takes (n ∷ a ∷ b ∷ c ∷ d ∷ f ∷ []) h e = absurd cc
heading_takes (n ∷ a ∷ b ∷ c ∷ d ∷ f ∷ g ∷ []) h e = absurd cc
heading_takes (n ∷ a ∷ b ∷ c ∷ d ∷ f ∷ g ∷ k ∷ []) h e =
    choose n (codes "heap") _ _ h (AllZip SpellsPiece (n ∷ a ∷ b ∷ c ∷ d ∷ f ∷ g ∷ k ∷ []) (heading_pieces h)) e (λ is e. heading_by_takes n a b c d f g k h is e) (λ e.
    no_more h (AllZip SpellsPiece (n ∷ a ∷ b ∷ c ∷ d ∷ f ∷ g ∷ k ∷ []) (heading_pieces h)) e)
heading_takes (n ∷ a ∷ b ∷ c ∷ d ∷ f ∷ g ∷ k ∷ m ∷ more) h e = absurd cc

-- the first line of a geometry
abbrev heading_in : Geometry → Heading
heading_in g = record { live = g.live; alloc = g.alloc; reserve = g.reserve; high = g.high; low = g.low; refs = g.board.refs; nums = g.board.nums }

heading_by_again : (a b c d e f g : List ℕ) (h : Heading) → below (2 ^ 32) a ≡ Some h.live → below (2 ^ 32) b ≡ Some h.alloc → below (2 ^ 32) c ≡ Some h.reserve → size_of d ≡ Some h.high → size_of e ≡ Some h.low
    → size_of f ≡ Some h.refs → size_of g ≡ Some h.nums → heading_by a b c d e f g ≡ Some h
unfolding heading_by
heading_by_again a b c d e f g h i0 i1 i2 i3 i4 i5 i6 = rw (i0, i1, i2, i3, i4, i5, i6) refl

heading_again : (ws : List (List ℕ)) (g : Geometry) → AllZip SpellsPiece ws (geometry_pieces g) → heading_of ws ≡ Some (heading_in g)
unfolding heading_of
heading_again [] g z = absurd z
heading_again (n ∷ []) g z = absurd z.1
heading_again (n ∷ a ∷ []) g z = absurd z.1.1
heading_again (n ∷ a ∷ b ∷ []) g z = absurd z.1.1.1
heading_again (n ∷ a ∷ b ∷ c ∷ []) g z = absurd z.1.1.1.1
heading_again (n ∷ a ∷ b ∷ c ∷ d ∷ []) g z = absurd z.1.1.1.1.1
heading_again (n ∷ a ∷ b ∷ c ∷ d ∷ e ∷ []) g z = absurd z.1.1.1.1.1.1
heading_again (n ∷ a ∷ b ∷ c ∷ d ∷ e ∷ f ∷ []) g z = absurd z.1.1.1.1.1.1.1
heading_again (n ∷ a ∷ b ∷ c ∷ d ∷ e ∷ f ∷ k ∷ []) g z =
    let live = g.live_few in let alloc = g.alloc_few in let within = g.reserve_within in let tasks = g.tasks_few in let few = g.board.few in
    rw z.0 (heading_by_again a b c d e f k (heading_in g)
    (below_again (2 ^ 32) a g.live z.1.0 (omega arith) (omega arith))
    (below_again (2 ^ 32) b g.alloc z.1.1.0 (omega arith) (omega arith))
    (below_again (2 ^ 32) c g.reserve z.1.1.1.0 (omega arith) (omega arith))
    (below_again 256 d g.high z.1.1.1.1.0 (omega arith) (omega arith))
    (below_again 256 e g.low z.1.1.1.1.1.0 (omega arith) (omega arith))
    (below_again 256 f g.board.refs z.1.1.1.1.1.1.0 (omega arith) (omega arith))
    (below_again 256 k g.board.nums z.1.1.1.1.1.1.1.0 (omega arith) (omega arith)))
heading_again (n ∷ a ∷ b ∷ c ∷ d ∷ e ∷ f ∷ k ∷ m ∷ more) g z = absurd z.1.1.1.1.1.1.1.1

-- ---- geometries

-- a test that gave no error
no_error : (b : Bool) (e : GeoError) (y : Option GeoError) → cond b (Some e) y ≡ None → (b ≡ false) × (y ≡ None)
no_error true e y h = absurd cc
no_error false e y h = (refl, h)

few_fields : (s : Sizes) → first_error USUAL_FIELDS s ≡ None → s.refs + s.nums ≤ USUAL_FIELDS
few_fields s h =
    let a = no_error (not (s.live % 2 == 0) || not (s.alloc % 2 == 0)) _ _ h in
    let b = no_error (nat_lt s.live (1 + s.refs + s.nums) || nat_lt s.alloc 16) _ _ a.1 in
    let c = no_error (nat_lt 65536 s.live || nat_lt 65536 s.alloc) _ _ b.1 in
    let d = no_error (nat_lt s.alloc s.reserve) _ _ c.1 in
    let e = no_error (s.high + s.low == 0 || nat_lt 31 (s.high + s.low)) _ _ d.1 in
    let f = no_error (s.refs + s.nums == 0 || nat_lt USUAL_FIELDS (s.refs + s.nums)) _ _ e.1 in
    grind (arith, nat_tests, f.0)

fits : (g : Geometry) → g.board.refs + g.board.nums ≤ USUAL_FIELDS → first_error USUAL_FIELDS (sizes_in (heading_in g)) ≡ None
unfolding sizes_in
fits g few =
    let even = g.live_even in let alloc_even = g.alloc_even in let board = g.board_fits in let enough = g.alloc_enough in
    let live = g.live_few in let alloc = g.alloc_few in let within = g.reserve_within in let some = g.tasks_some in let tasks = g.tasks_few in let fields = g.board.some in
    let a : (not (g.live % 2 == 0) || not (g.alloc % 2 == 0)) ≡ false = rw (even, alloc_even) refl in
    let b : (nat_lt g.live (1 + g.board.refs + g.board.nums) || nat_lt g.alloc 16) ≡ false = grind (arith, nat_tests) in
    let c : (nat_lt 65536 g.live || nat_lt 65536 g.alloc) ≡ false = grind (arith, nat_tests) in
    let d : nat_lt g.alloc g.reserve ≡ false = grind (arith, nat_tests) in
    let e : (g.high + g.low == 0 || nat_lt 31 (g.high + g.low)) ≡ false = grind (arith, nat_tests) in
    let f : (g.board.refs + g.board.nums == 0 || nat_lt USUAL_FIELDS (g.board.refs + g.board.nums)) ≡ false = grind (arith, nat_tests) in
    rw (a, b, c, d, e, f) refl

has_sizes : (g : Geometry) → g.registers ≡ REGISTERS → HasSizes g (sizes_in (heading_in g))
unfolding sizes_in
has_sizes g is = record { live = refl; alloc = refl; reserve = refl; high = refl; low = refl; refs = refl; nums = refl; registers = is }

-- the first line of a text says a geometry
pub opens : (text : List ℕ) (h : Heading) (g : Geometry) → heading_of (words_of text) ≡ Some h → IsOfHeading h (Some g) → Opens text g
unfolding sizes_in
opens text h g e is =
    let s = is.1 in
    let same : heading_in g ≡ h = λ i. record { live = s.live i; alloc = s.alloc i; reserve = s.reserve i; high = s.high i; low = s.low i; refs = s.refs i; nums = s.nums i } in
    record {
      spelled = subst (λ (k : Heading). AllZip SpellsPiece (words_of text) (heading_pieces k)) (sym same) (heading_takes (words_of text) h e);
      registers = s.registers;
      fields = (let few = few_fields (sizes_in h) is.0 in rw (s.refs, s.nums) few);
    }

-- or none
pub no_heading : (text : List ℕ) (g : Geometry) → heading_of (words_of text) ≡ None → Opens text g → ⊥
no_heading text g e o = let h = heading_again (words_of text) g o.spelled in absurd cc

pub no_geometry : (text : List ℕ) (h : Heading) (g : Geometry) → heading_of (words_of text) ≡ Some h → IsOfHeading h None → Opens text g → ⊥
no_geometry text h g e is o =
    let again = heading_again (words_of text) g o.spelled in
    let same : heading_in g ≡ h = some_is (heading_in g) h (sym again ∙ e) in
    is (subst (λ (k : Heading). first_error USUAL_FIELDS (sizes_in k) ≡ None) same (fits g o.fields))

-- and one at most
pub one_opening : (text : List ℕ) (g h : Geometry) → Opens text g → Opens text h → g ≡ h
one_opening text g h o p =
    let same : heading_in g ≡ heading_in h = some_is _ _ (sym (heading_again (words_of text) g o.spelled) ∙ heading_again (words_of text) h p.spelled) in
    one_geometry g h (sizes_in (heading_in g)) (has_sizes g o.registers) (subst (λ (k : Heading). HasSizes h (sizes_in k)) (sym same) (has_sizes h p.registers))
