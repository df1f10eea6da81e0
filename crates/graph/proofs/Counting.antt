-- The places of an order are the numbers from 1 to their count.
use Rattle.std.proofs.Common.{◌≡◌, ℕ, ◌-◌, ◌<◌, List, get_or, Some, sym, subst, inl, inr, arith}
use Rattle.std.specs.List.{slice_get}
use Rattle.std.proofs.lemmas.Option.{slice_get-get_or}
use Rattle.algebra.specs.Placements.{Row}
use Rattle.graph.specs.declared.order.Entry.{Entry}
use Rattle.graph.specs.Orders.{CountsPlaces, EntryOf, Ordered, blank}
use Rattle.graph.proofs.Groups.{group_self, group_turned}
use Rattle.graph.proofs.LeaderLists.{in_cases, nth_below, nth_in}
use Rattle.graph.proofs.Sequences.{Sequence, begin, next, IndexOf, index_once, turns_sequence}
use Rattle.graph.specs.Turns.{In}

-- the leaders placed are moments of the scene
leaders_below : (n : ℕ) (rs : List Row) {ls : List ℕ} → Sequence n rs ls → (l : ℕ) → In l ls → l < n
leaders_below n rs begin l h = absurd h
leaders_below n rs (next {placed = ls} {l = k} q ready) l h = elim (in_cases l ls k h) [ inl i ↦ leaders_below n rs q l i | inr e ↦ subst (λ v. v < n) (sym e) ready.0 ]

-- the entry of a moment says the index of its place
entry_index : (rs : List Row) (ls : List ℕ) (m : ℕ) (e : Entry) → EntryOf rs ls m e → IndexOf rs ls m (e.place - 1)
entry_index rs ls m e h = (e.leader, (h.2, group_turned rs m e.leader h.0.0))

pub counts_places : (n : ℕ) (rs : List Row) (es : List Entry) (count : ℕ) → Ordered n rs es count → CountsPlaces n es count
counts_places n rs es count o =
    let ls = o.0 in
    let q = turns_sequence n rs o.1.0.0 in
    let long = o.1.1 in
    let entries = o.1.2 in (
      (λ m hm.
          let h = entries m hm in
          (h.1, omega (arith, h.1, long, nth_below ls ((get_or es m blank).place - 1) (get_or es m blank).leader h.2))),
      (λ k low high.
          let l = get_or ls (k - 1) 0 in
          let there : slice_get ls (k - 1) ≡ Some l = slice_get-get_or ls (k - 1) 0 (omega (arith, long)) in
          let hl = leaders_below n rs q l (nth_in ls (k - 1) l there) in
          let h = entries l hl in
          let same = index_once n rs q l ((get_or es l blank).place - 1) (k - 1) (entry_index rs ls l (get_or es l blank) h) (l, (there, group_self rs l)) in
          (l, (hl, omega (arith, same, low, h.1)))),
    )
