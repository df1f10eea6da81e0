use Rattle.std.proofs.Common.{◌≡◌, ℕ, ◌+◌, ◌<◌, List, ◌++◌, length, get_or, drop, Some, string_bytes, sym, refl, ap, ◌∙◌, arith}
use Rattle.std.proofs.lemmas.List.{append-nil, append_assoc, at_drop_more, at_drop_all, length_push}
use Rattle.std.proofs.lemmas.Option.{slice_get-get_or}
use Rattle.std.proofs.lemmas.Slice.{pushed}
use Rattle.std.specs.List.{slice_get}
use Rattle.algebra.specs.Placements.{Row}
use Rattle.scene.proofs.Rows.{all_numbered, numbered_turn, numbered_end}
use Rattle.report.specs.Lines.{row_line, row_lines}
use Rattle.report.proofs.rows.listing.Goals as goal

-- one line more
line_more : (rows : List Row) (i k n : ℕ) (r : Row) (text text' line whole : List ℕ) → (i ≡ k) × (k < length rows) × (Some r ≡ slice_get rows k) → n ≡ k + 1 → line ≡ row_line i r → text' ≡ text ++ line
    → text ++ row_lines k (drop k rows) ≡ whole → text' ++ row_lines n (drop n rows) ≡ whole
line_more rows i k n r text text' line whole t counted is add inv =
    let same : get_or rows k r ≡ r = (let h = slice_get-get_or rows k r t.1 in let at = t.2 in cc) in
    let rest = row_lines (k + 1) (drop (k + 1) rows) in
    let next : row_lines k (drop k rows) ≡ row_line k r ++ rest = at_drop_more (row_lines k) rows k r t.1 ∙ ap (λ q. row_line k q ++ rest) same in
    let line_is : line ≡ row_line k r = is ∙ ap (λ j. row_line j r) t.0 in
    (λ j. (add ∙ ap (λ bs. text ++ bs) line_is) j ++ row_lines (counted j) (drop (counted j) rows)) ∙ append_assoc text (row_line k r) rest ∙ ap (λ bs. text ++ bs) (sym next) ∙ inv

pub loop-position-preserved : goal.loop-position-preserved
loop-position-preserved g c =
    let source = c.args.source.now in
    let rows = (g.S.Source.scene source).rows in
    let text = string_bytes c.loop-position.text in
    let row : Row = (c.in-Some.left, c.in-Some.set, c.in-Some.right) in
    let line : string_bytes c.in_ok-line.line ≡ row_line c.in-Some.position row = c.in_ok-line.ensures ∙ (λ j. row_line c.in-Some.position (c.from.ensures j, c.in-Some.set, c.from-in-loop-position.ensures j)) in
    let t = numbered_turn g.S.Source.scene source (all_numbered g.S.Source.scene source (cc) (cc) (cc))
    c.loop-position.yielded c.loop-position.position-iterator c.loop-position.yielded_by _ c.next.new.self c.in-Some.position row c.in-Some.is c.next.ensures.steps in
    line_more rows c.in-Some.position (length c.loop-position.yielded) _ row text (string_bytes c.push_str.new.self) (string_bytes c.in_ok-line.line) _ t
    (length_push c.loop-position.yielded (c.in-Some.position, row)) line
    (pushed {was = text} _ refl c.in_ok-push_str.was c.push_str.ensures.bytes ∙ ap (λ bs. text ++ bs) c.as_str.ensures.value) c.loop-position.invariant

pub returns : goal.returns
returns g c =
    let source = c.args.source.now in
    let rows = (g.S.Source.scene source).rows in
    let text = string_bytes c.loop-position.text in
    let k = length c.loop-position.yielded in
    let all = numbered_end g.S.Source.scene source (all_numbered g.S.Source.scene source (cc) (cc) (cc))
    c.loop-position.yielded c.loop-position.position-iterator c.loop-position.yielded_by _ c.next.new.self c.in-None.is c.next.ensures.steps in
    sym (append-nil text) ∙ ap (λ bs. text ++ bs) (sym (at_drop_all (row_lines k) rows k (omega (arith, all)))) ∙ c.loop-position.invariant
