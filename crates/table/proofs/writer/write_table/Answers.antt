use Rattle.std.proofs.Common.{◌≡◌, ◌+◌, ◌-◌, ◌*◌, ◌∷◌, ◌++◌, map, length, take, drop, set, sym, ap, ◌∙◌, subst, arith}
use Rattle.std.proofs.lemmas.List.{take_all, take_at, length_push}
use Rattle.scene.proofs.Pile.{at_most}
use Rattle.scene.proofs.Rows.{all_numbered, numbered_turn, numbered_end}
use Rattle.table.specs.Commands.{encoded}
use Rattle.table.specs.Readings.{Reads, found}
use Rattle.table.specs.Writings.{row_command, written}
use Rattle.table.proofs.Writing.{row_turn, end_put, written_size, header_put, header_leaves, reads_back}
use Rattle.table.proofs.writer.write_table.Goals as goal

pub loop-i-init : goal.loop-i-init
loop-i-init g c =
    let xs = c.args.out.now in
    let m = c.moments.result - 1 in
    let room = at_most (length xs) (3 + 4 * c.in_ok-count.count) c.in_ok-size.ensures.0.0 in
    header_put xs 16 m (omega arith) ∙ ap (λ n. 16 ∷ (n - 1) ∷ drop 2 (set (set xs 0 16) 1 m)) c.moments.ensures

pub loop-i-preserved : goal.loop-i-preserved
loop-i-preserved g c =
    let s = g.S.Source.scene c.args.source.now in
    let t = numbered_turn g.S.Source.scene c.args.source.now (all_numbered g.S.Source.scene c.args.source.now (cc) (cc) (cc))
    c.loop-i.yielded c.loop-i.i-iterator c.loop-i.yielded_by _ c.next.new.self c.in-Some.i c.in-Some.row c.in-Some.is c.next.ensures.steps in
    row_turn (s.moments - 1) s.rows c.in-Some.i (length c.loop-i.yielded) _ c.in-Some.row _ c.loop-i.out c.copy_from_slice.new.self t (length_push c.loop-i.yielded (c.in-Some.i, c.in-Some.row))
    c.loop-i.invariant (c.copy_from_slice.ensures.after ∙ c.row_bytes.ensures)

pub returns : goal.returns
returns g c =
    let s = g.S.Source.scene c.args.source.now in
    let xs = c.args.out.now in
    let n = c.in_ok-count.count in
    let counted = c.in_ok-count.ensures in
    let sized = c.in_ok-size.ensures in
    let few = at_most 4096 (length s.rows) counted.0.0 in
    let room = at_most (length xs) (3 + 4 * n) sized.0.0 in
    let end = numbered_end g.S.Source.scene c.args.source.now (all_numbered g.S.Source.scene c.args.source.now (cc) (cc) (cc)) c.loop-i.yielded c.loop-i.i-iterator c.loop-i.yielded_by _ c.next.new.self c.in-None.is c.next.ensures.steps in
    let done : length c.loop-i.yielded ≡ n = end ∙ sym counted.1 in
    let start = set (set xs 0 16) 1 (c.moments.result - 1) in
    let inv : c.loop-i.out ≡ encoded (s.moments - 1) (map row_command s.rows) ++ drop (2 + 4 * n) start =
    c.loop-i.invariant ∙ (λ j. encoded (s.moments - 1) (map row_command (take (done j) s.rows)) ++ drop (2 + 4 * done j) start)
    ∙ ap (λ rs. encoded (s.moments - 1) (map row_command rs) ++ drop (2 + 4 * n) start) (take_all n s.rows (omega (arith, counted.1))) in
    let size = sized.1 ∙ written_size (s.moments - 1) s.rows n counted.1 in
    let exit = ap (λ m. set c.loop-i.out (m - 1) 0) sized.1 ∙ end_put (s.moments - 1) s.rows start c.loop-i.out xs n counted.1 room (header_leaves xs 16 (c.moments.result - 1) (2 + 4 * n) (omega arith)) inv in
    record {
      size = ((counted.0.0, ((λ h. omega (arith, counted.1)), tt)), (sized.1 ∙ ap (λ m. 3 + 4 * m) counted.1, size));
      bytes = exit;
      back = subst (λ bs. Reads bs (found s.moments s.rows)) (sym (ap (take c.in_ok-size.size) exit ∙ take_at (written s.moments s.rows) _ c.in_ok-size.size (sym size)))
          (reads_back s (g.S.Source.lawful c.args.source.now) few);
    }
