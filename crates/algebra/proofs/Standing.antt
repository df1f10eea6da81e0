-- Of two titles that rise before they fall, one of the thirteen relations holds, and no other.
use Rattle.std.proofs.Common.{◌≡◌, ℕ, true, get_or, ◌+ℤ◌, ◌<ℤ◌, sym, subst, arith}
use Rattle.std.proofs.lemmas.Int.{ints}
use Rattle.std.proofs.lemmas.Bool.{and_from}
use Rattle.algebra.specs.declared.points.Relation.{Relation}
use Rattle.algebra.specs.declared.titles.Pair.{Pair}
use Rattle.algebra.specs.declared.titles.Pair.TheVariants.{RiseRise, RiseFall, FallRise, FallFall}
use Rattle.algebra.specs.declared.titles.TitleRelation.TheVariants.{Equals}
use Rattle.algebra.specs.Placements.{Placement}
use Rattle.algebra.specs.Points.{Holds}
use Rattle.algebra.specs.Titles.{thirteen, left, right, sign, Rises, OneHolds}
use Rattle.algebra.proofs.Signs.{trichotomy, holds_same, step, step_from}
use Rattle.algebra.proofs.Table.{possible, found, same_title}

module _ (p : Placement) (x y : ℕ) where
  -- how the moments of each pair stand
  abbrev signs : Pair → Relation
  signs k = (trichotomy (p (left k x)) (p (right k y))).0

  stepped : (k l : Pair) → (p (left k x) +ℤ p (right l y)) <ℤ (p (left l x) +ℤ p (right k y)) → step (signs k) (signs l) ≡ true
  stepped k l h = step_from _ _ _ _ _ _ (trichotomy (p (left k x)) (p (right k y))).1 (trichotomy (p (left l x)) (p (right l y))).1 h

  can_be : Rises p x → Rises p y → possible signs ≡ true
  can_be hx hy =
      and_from _ _
      (and_from _ _ (stepped RiseRise FallRise (omega (arith, ints))) (stepped RiseFall FallFall (omega (arith, ints))))
      (and_from _ _ (stepped RiseFall RiseRise (omega (arith, ints))) (stepped FallFall FallRise (omega (arith, ints))))

pub one_holds : OneHolds thirteen
one_holds p x y hx hy =
    let f = found (signs p x y) (can_be p x y hx hy) in
    let holds : (k : Pair) → Holds (sign (get_or thirteen f.0 Equals) k) (p (left k x)) (p (right k y)) =
    λ k. subst (λ q. Holds q (p (left k x)) (p (right k y))) (sym (f.2 k)) (trichotomy (p (left k x)) (p (right k y))).1 in
    (f.0, f.1, (hx, hy, holds), λ t h. same_title t (get_or thirteen f.0 Equals) (λ k. holds_same _ _ _ _ (h.2 k) (holds k)))
