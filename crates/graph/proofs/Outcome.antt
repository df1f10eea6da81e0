-- What the order of a scene owes.
use Rattle.std.proofs.Common.{◌≡◌, ℕ, ◌-◌, ◌≤◌, List, ◌++◌, drop, take, length, get_or, sym, ap, ◌∙◌, subst, arith}
use Rattle.std.proofs.lemmas.List.{get_or_append_left, get_or-append_right, get_or-drop, length-append, length-drop, length-take-le}
use Rattle.algebra.specs.Placements.{Row}
use Rattle.scene.specs.Scenes.{Agree, Lawful, Scene}
use Rattle.graph.specs.declared.order.Entry.{Entry}
use Rattle.graph.specs.Orders.{Beyond, EntryOf, MostPlaces, OneOrder, Ordered, Owed, blank}
use Rattle.graph.proofs.Counting.{counts_places}
use Rattle.graph.proofs.Most.{most_places}
use Rattle.graph.proofs.Obeyed.{turns_obey}
use Rattle.graph.proofs.OneOrder.{one_sequence}
use Rattle.graph.proofs.Readiness.{one_ready}
use Rattle.graph.proofs.Sequences.{turns_sequence}
use Rattle.graph.proofs.Tables.{table, table_tells}

pub one_order : (s : Scene) → Lawful s → OneOrder s
one_order s law = (one_ready s.moments s.rows law.own law.few (table s.rows) (table_tells s.moments s.rows law.few law.own), one_sequence s.moments s.rows)

pub ordered_owed : (s : Scene) → Lawful s → (es : List Entry) (count : ℕ) → Ordered s.moments s.rows es count → Agree s.rows → Owed s es count
ordered_owed s law es count o agree =
    let n = s.moments in
    let rs = s.rows in
    record {
      ordered = o;
      counted = counts_places n rs es count o;
      obeyed = turns_obey n rs law.own law.few (table rs) (table_tells n rs law.few law.own) o.0 (turns_sequence n rs o.1.0.0) es o.1.2 agree;
      most = subst (λ k. MostPlaces n rs k) o.1.1 (most_places n rs o.0 o.1.0.1);
    }

-- a list that goes on behind the entries of n moments
module _ (n : ℕ) (old part : List Entry) (small : n ≤ length old) where
  long : length part ≡ length (take n old) → length part ≡ n
  long e = e ∙ length-take-le n old small

  pub ordered_longer : (rs : List Row) (count : ℕ) → length part ≡ length (take n old) → Ordered n rs part count → Ordered n rs (part ++ drop n old) count
  ordered_longer rs count e o =
      let fits = long e in
      (o.0, (o.1.0, o.1.1, λ m h. subst (EntryOf rs o.0 m) (sym (get_or_append_left part (drop n old) blank m (omega arith))) (o.1.2 m h)))

  pub beyond_longer : Beyond n (take n old) part → Beyond n old (part ++ drop n old)
  beyond_longer b =
      let fits = long b.0 in (
        omega (arith, length-append part (drop n old), length-drop n old),
        λ k h e. get_or-append_right part (drop n old) n k e fits h ∙ get_or-drop n old (k - n) e ∙ ap (λ j. get_or old j e) (omega arith),
      )
