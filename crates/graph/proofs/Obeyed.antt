-- Places by turns obey rows that agree.
use Rattle.std.proofs.Common.{◌≡◌, ℕ, ◌-◌, ◌<◌, ◌≤◌, Bool, true, List, get_or, sym, subst, arith}
use Rattle.algebra.specs.Placements.{Row, ObeysAll}
use Rattle.scene.specs.Scenes.{Agree, all_fit}
use Rattle.graph.specs.declared.order.Entry.{Entry}
use Rattle.graph.specs.Orders.{EntryOf, blank, placing}
use Rattle.graph.specs.Reaching.{Tells}
use Rattle.graph.proofs.Groups.{group_turned}
use Rattle.graph.proofs.Rising.{impossible_clashes}
use Rattle.graph.proofs.Sequences.{Sequence, IndexOf, index_back, index_once, index_together}
use Rattle.graph.proofs.Spread.{Spread, spread_obeys}

-- places by turns are spread so
pub entries_spread : (n : ℕ) (rs : List Row) → all_fit n rs ≡ true → n ≤ 256 → (t : ℕ → ℕ → Bool) → Tells t rs
    → (ls : List ℕ) → Sequence n rs ls → (es : List Entry) → ((m : ℕ) → m < n → EntryOf rs ls m (get_or es m blank))
    → Spread n rs (λ m. (get_or es m blank).place)
entries_spread n rs own few t tells ls q es entries_fit = record {
  up = λ x y hx hy p. (
      let a = entries_fit x hx in
      let b = entries_fit y hy in
      let back = index_back n rs own few t tells q x y ((get_or es y blank).place - 1) p (index_at y hy) in
      let same = index_once n rs q x back.0 ((get_or es x blank).place - 1) back.1.1 (index_at x hx) in
      omega (arith, a.1, b.1, back.1.0, same));
  one = λ x y hx hy e. index_together rs ls x y ((get_or es x blank).place - 1) (index_at x hx) (subst (λ v. IndexOf rs ls y (v - 1)) (sym e) (index_at y hy));
}
  where
    index_at : (m : ℕ) → m < n → IndexOf rs ls m ((get_or es m blank).place - 1)
    index_at m h = let s = entries_fit m h in ((get_or es m blank).leader, (s.2, group_turned rs m (get_or es m blank).leader s.0.0))

-- the entries of all turns obey rows that agree
pub turns_obey : (n : ℕ) (rs : List Row) → all_fit n rs ≡ true → n ≤ 256 → (t : ℕ → ℕ → Bool) → Tells t rs
    → (ls : List ℕ) → Sequence n rs ls → (es : List Entry) → ((m : ℕ) → m < n → EntryOf rs ls m (get_or es m blank))
    → Agree rs → ObeysAll (placing es) rs
turns_obey n rs own few t tells ls q es entries_fit agree =
    spread_obeys n rs (λ m. (get_or es m blank).place) (entries_spread n rs own few t tells ls q es entries_fit) own (λ some. impossible_clashes rs some agree)
