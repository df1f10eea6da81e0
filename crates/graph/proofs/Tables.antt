-- Which moment reaches which by given rows, worked out from the rows one by one.
use Rattle.std.proofs.Common.{◌≡◌, ℕ, ◌<◌, ◌≤◌, Bool, true, false, ◌&&◌, eqb, ◌⊎◌, List, [], ◌∷◌, Decides, sym, refl, subst, inl, inr, arith}
use Rattle.std.proofs.lemmas.Bool.{and_parts, true≢false}
use Rattle.std.proofs.Math.Bool.{Bool-set}
use Rattle.std.proofs.Math.Logic.{∥∥₁_elim}
use Rattle.std.proofs.lemmas.Bool.Decides.{Decides-like, Decides-and, Decides-or, Decides-eqb, same_from_decides}
use Rattle.algebra.specs.Placements.{Row}
use Rattle.algebra.specs.Points.{has}
use Rattle.algebra.specs.declared.points.Relation.TheVariants.{Before, After}
use Rattle.scene.specs.Scenes.{Lawful, names, ranged, all_fit}
use Rattle.graph.specs.Steps.{Path, stay, onward, Step, StepOf}
use Rattle.graph.specs.Reaching.{Tells, grown}
use Rattle.graph.proofs.Closed.{same_tells}
use Rattle.graph.proofs.Paths.{path_join, path_map, row_ends}

-- one more step
abbrev Plus : (ℕ → ℕ → Type 0) → ℕ → ℕ → ℕ → ℕ → Type 0
Plus E p q x y = E x y ⊎ ((x ≡ p) × (y ≡ q))

-- the new step left out: the path did without it, or it led to where the step starts, and on from where it ends
plus_split : (E : ℕ → ℕ → Type 0) (p q : ℕ) {x y : ℕ} → Path (Plus E p q) x y → Path E x y ⊎ (Path E x p × Path E q y)
plus_split E p q stay = inl stay
plus_split E p q (onward {x = x} {y = y} {z = z} (inl e) r) =
    elim (plus_split E p q r) [ inl a ↦ inl (onward e a) | inr b ↦ inr (onward e b.0, b.1) ]
plus_split E p q (onward {x = x} {y = y} {z = z} (inr e) r) =
    let at : Path E x p = subst (λ v. Path E x v) e.0 stay in
    elim (plus_split E p q r) [
      | inl a ↦ inr (at, subst (λ v. Path E v z) e.1 a)
      | inr b ↦ inr (at, b.1)
    ]

plus_join : (E : ℕ → ℕ → Type 0) (p q : ℕ) {x y : ℕ} → Path E x y ⊎ (Path E x p × Path E q y) → Path (Plus E p q) x y
plus_join E p q (inl a) = path_map (λ _ _ e. inl e) a
plus_join E p q (inr b) = path_join (path_map (λ _ _ e. inl e) b.0) (onward (inr (refl, refl)) (path_map (λ _ _ e. inl e) b.1))

-- the table tells of the paths of any kind of step
abbrev Right : (ℕ → ℕ → Bool) → (ℕ → ℕ → Type 0) → Type 0
Right t E = (x y : ℕ) → x < 256 → y < 256 → Decides (t x y) (Path E x y)

right_like : (t : ℕ → ℕ → Bool) (E F : ℕ → ℕ → Type 0) → ((a b : ℕ) → E a b → F a b) → ((a b : ℕ) → F a b → E a b) → Right t E → Right t F
right_like t E F f g right x y hx hy = Decides-like (t x y) (path_map f) (path_map g) (right x y hx hy)

-- a table that grows by a step tells of it
pub right_grown : (t : ℕ → ℕ → Bool) (E : ℕ → ℕ → Type 0) (p q : ℕ) → p < 256 → q < 256 → Right t E → Right (grown t p q) (Plus E p q)
right_grown t E p q hp hq right x y hx hy =
    Decides-like (grown t p q x y) (plus_join E p q) (plus_split E p q)
    (Decides-or (t x y) (t x p && t q y) (right x y hx hy) (Decides-and (t x p) (t q y) (right x p hx hp) (right q y hq hy)))

none_stays : {x y : ℕ} → Path (Step []) x y → x ≡ y
none_stays stay = refl
none_stays (onward e r) = absurd e

-- without rows each moment reaches itself alone
pub right_none : Right eqb (Step [])
right_none x y hx hy = Decides-like (eqb x y) (λ e. subst (λ v. Path (Step []) x v) e stay) none_stays (Decides-eqb x y)

-- a step that is there only if a relation is lacking
abbrev unless : Bool → (ℕ → ℕ → Bool) → ℕ → ℕ → ℕ → ℕ → Bool
unless true t p q = t
unless false t p q = grown t p q

abbrev Unless : Bool → (ℕ → ℕ → Type 0) → ℕ → ℕ → ℕ → ℕ → Type 0
Unless b E p q x y = E x y ⊎ ((p ≡ x) × (q ≡ y) × (b ≡ false))

right_unless : (t : ℕ → ℕ → Bool) (E : ℕ → ℕ → Type 0) (b : Bool) (p q : ℕ) → p < 256 → q < 256 → Right t E → Right (unless b t p q) (Unless b E p q)
right_unless t E true p q hp hq right = right_like t E (Unless true E p q) (λ _ _ e. inl e) (λ _ _ e. elim e [ inl a ↦ a | inr s ↦ absurd (true≢false s.2) ]) right
right_unless t E false p q hp hq right = right_like (grown t p q) (Plus E p q) (Unless false E p q)
    (λ _ _ e. elim e [ inl a ↦ inl a | inr s ↦ inr (sym s.0, sym s.1, refl) ])
    (λ _ _ e. elim e [ inl a ↦ inl a | inr s ↦ inr (sym s.0, sym s.1) ])
    (right_grown t E p q hp hq right)

-- the table with the steps of one more row
abbrev with_row : Row → (ℕ → ℕ → Bool) → ℕ → ℕ → Bool
with_row r t = unless (has r.1 Before) (unless (has r.1 After) t r.0 r.2) r.2 r.0

right_row : (t : ℕ → ℕ → Bool) (E : ℕ → ℕ → Type 0) (r : Row) → r.0 < 256 → r.2 < 256 → Right t E → Right (with_row r t) (λ x y. StepOf r x y ⊎ E x y)
right_row t E r hp hq right =
    let a = has r.1 After in
    let b = has r.1 Before in
    right_like (with_row r t) (Unless b (Unless a E r.0 r.2) r.2 r.0) (λ x y. StepOf r x y ⊎ E x y)
    (λ _ _ e. elim e [ inl (inl s) ↦ inr s | inl (inr s) ↦ inl (inl s) | inr s ↦ inl (inr s) ])
    (λ _ _ e. elim e [ inr s ↦ inl (inl s) | inl (inl s) ↦ inl (inr s) | inl (inr s) ↦ inr s ])
    (right_unless (unless a t r.0 r.2) (Unless a E r.0 r.2) b r.2 r.0 hq hp
    (right_unless t E a r.0 r.2 hp hq right))

-- the table of some rows
abbrev pub table : List Row → ℕ → ℕ → Bool
table [] = eqb
table (r ∷ rs) = with_row r (table rs)

-- it tells of their paths
pub table_tells : (n : ℕ) (rs : List Row) → n ≤ 256 → all_fit n rs ≡ true → Tells (table rs) rs
table_tells n [] few own = right_none
table_tells n (r ∷ rs) few own =
    let p = and_parts (names n r && ranged r) (all_fit n rs) own in
    let e = row_ends n r p.0 in
    right_row (table rs) (Step rs) r (omega (arith, e.0)) (omega (arith, e.1)) (table_tells n rs few p.1)

-- a table that is known to tell of the paths does so by this one
pub tells_again : (n : ℕ) (rs : List Row) → Lawful (record { moments = n; rows = rs }) → (t : ℕ → ℕ → Bool) → ∥ Tells t rs ∥₁ → Tells t rs
tells_again n rs lawful t told =
    let known = table_tells n rs lawful.few lawful.own in
    same_tells t (table rs) (λ x y hx hy. ∥∥₁_elim told (Bool-set _ _) (λ tells. same_from_decides (t x y) (table rs x y) (tells x y hx hy) (known x y hx hy))) known
