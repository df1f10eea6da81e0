use Rattle.std.proofs.Common.{◌≡◌, Bool, true, false, not, MatchOption, refl, subst}
use Rattle.std.specs.Bool.{then_some}
use Rattle.std.proofs.lemmas.Bool.Decides.{not_from_Decides}
use Rattle.scene.specs.Scenes.{Agree, Clash}
use Rattle.graph.proofs.Rising.{impossible_clashes}
use Rattle.graph.proofs.Verdict.{possible_agrees}
use Rattle.graph.proofs.consistency.Reached.without_clash.Goals as goal

-- a value that is there unless told otherwise
unless : {X P : Type 0} (Q : X → Type 0) (told : Bool) (x : X) → (told ≡ true → P) → (told ≡ false → Q x) → MatchOption (then_some (not told) x) P Q
unless Q true x p q = p refl
unless Q false x p q = q refl

pub returns : goal.returns
returns g c =
    let reached = c.of-reached.result in
    let told = c.has_impossible_row.result in
    let s = g.S.Source.scene reached.source.now in
    let law = g.S.Source.lawful reached.source.now in
    let is = c.of-reached.ensures in
    rw c.then_some.ensures (unless _ told reached
    (λ e. subst (λ v. Clash (g.S.Source.scene v).rows) is (impossible_clashes s.rows (c.has_impossible_row.ensures.0 e)))
    (λ e. (subst (λ v. Agree (g.S.Source.scene v).rows) is (possible_agrees s.moments s.rows law.few law.own (not_from_Decides told c.has_impossible_row.ensures e)), is)))
