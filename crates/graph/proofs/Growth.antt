-- What a change of one row does to the table.
use Rattle.std.proofs.Common.{◌≡◌, ℕ, ◌+◌, ◌<◌, ◌≤◌, Bool, true, false, ◌&&◌, ◌||◌, eqb, ◌≢◌, List, [], ◌∷◌, length, get_or, set, sym, refl, ap, ◌∙◌, subst, inl, inr, arith, get_or-set_other, get_or-set_same}
use Rattle.std.proofs.lemmas.Bool.{cases_eq, eq-eqb, ne_eqb}
use Rattle.std.proofs.Math.Bool.{and-false, or-false}
use Rattle.graph.specs.declared.moments.Moments.{Moments}
use Rattle.graph.specs.Sets.{holds, pair}
use Rattle.graph.specs.Reaching.{reaches, none, put}

-- the rows below i are changed as told, and the others are as they were
abbrev pub Changed : List Moments → (ℕ → ℕ → Bool) → ℕ → List Moments → Type 0
Changed old told i cur =
    ((x : ℕ) → x < i → (y : ℕ) → y < 256 → reaches cur x y ≡ told x y)
    × ((x : ℕ) → i ≤ x → get_or cur x none ≡ get_or old x none)

-- the row at i is changed
pub change_more : (old cur : List Moments) (told : ℕ → ℕ → Bool) (i : ℕ) (row : Moments) → Changed old told i cur → i < length cur
    → ((y : ℕ) → y < 256 → holds row y ≡ told i y)
    → Changed old told (i + 1) (set cur i row)
change_more old cur told i row inv l is = (
  (λ x hx y hy. elim (cases_eq x i) [
    | inl e ↦ subst (λ v. reaches (set cur i row) v y ≡ told v y) (sym e) (ap (λ r. holds r y) (get_or-set_same cur i row none l) ∙ is y hy)
    | inr ne ↦ rw (get_or-set_other cur i x row none ne) (inv.0 x (omega arith) y hy)
  ]),
  (λ x hx. let ne : x ≢ i = omega arith in rw (get_or-set_other cur i x row none ne) (inv.1 x (omega arith))),
)

-- the row of p takes q, where it is told to
pub put_row : (rows : List Moments) (told : Bool) (p q : ℕ) (row : Moments) → p < length rows
    → ((y : ℕ) → y < 256 → holds row y ≡ (holds (get_or rows p none) y || (told && eqb y q)))
    → (x y : ℕ) → y < 256 → reaches (set rows p row) x y ≡ put told (reaches rows) p q x y
put_row rows told p q row l is x y hy = elim (cases_eq x p) [
  | inl e ↦ subst (λ v. reaches (set rows p row) v y ≡ put told (reaches rows) p q v y) (sym e)
      (ap (λ r. holds r y) (get_or-set_same rows p row none l) ∙ is y hy ∙ rw (eq-eqb p p refl) refl)
  | inr ne ↦ ap (λ r. holds r y) (get_or-set_other rows p x row none ne) ∙ sym (rw (ne_eqb x p ne, and-false told) (or-false (reaches rows x y)))
]

-- a row takes one of four sets, by which of two moments it has
abbrev pub paired : (ℕ → ℕ → Bool) → List Moments → ℕ → ℕ → ℕ → Bool
paired t unions first x y = t x y || holds (get_or unions (pair (t x first) (t x (first + 1))) none) y

-- the sets of two moments and of both, chosen by pairs
pub chosen : (zero a b both : Moments) (y : ℕ) → holds zero y ≡ false → holds both y ≡ (holds a y || holds b y) → (p q : Bool)
    → holds (get_or (zero ∷ a ∷ b ∷ both ∷ []) (pair p q) none) y ≡ ((p && holds a y) || (q && holds b y))
chosen zero a b both y e f true true = f
chosen zero a b both y e f true false = sym (or-false (holds a y))
chosen zero a b both y e f false true = refl
chosen zero a b both y e f false false = e
