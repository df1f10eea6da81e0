use Rattle.std.proofs.Common.{ℕ, arith, rules}
use Rattle.std.proofs.lemmas.Iterator.{first_from_Range}
use Rattle.graph.specs.Free.{Free}
use Rattle.graph.specs.Reaching.{reaches}
use Rattle.graph.specs.Sets.{holds}
use Rattle.graph.proofs.order.Placing.lowest_ready.Goals as goal

pub returns-in_err-moment : goal.returns-in_err-moment
returns-in_err-moment g c =
    let self = c.args.self.now in
    let IsFree : ℕ → Type 0 = λ m. Free (reaches self.reached.now.closure.matrix.rows) (reaches self.back.matrix.rows) (holds self.placed) m in
    let told = first_from_Range _ c.find.new.self _ c.find.result IsFree (λ m. IsFree m → ⊥) c.find.ensures.ran (λ m q k. search rules) (λ m q k. search rules) in
    let found = rw c.in_err-moment.was at told in
    rw c.from_residual.ensures (λ m h. found m (omega arith) (omega (arith, self.counted)))

pub overflow_cast-result : goal.overflow_cast-result
overflow_cast-result g c =
    let self = c.args.self.now in
    let IsFree : ℕ → Type 0 = λ m. Free (reaches self.reached.now.closure.matrix.rows) (reaches self.back.matrix.rows) (holds self.placed) m in
    let told = first_from_Range _ c.find.new.self _ c.find.result IsFree (λ m. IsFree m → ⊥) c.find.ensures.ran (λ m q k. search rules) (λ m q k. search rules) in
    let found = rw c.in_ok-moment.was at told in
    omega (arith, found.1, self.counted, (g.S.Source.lawful self.reached.now.source.now).few)

pub returns : goal.returns
returns g c =
    let self = c.args.self.now in
    let IsFree : ℕ → Type 0 = λ m. Free (reaches self.reached.now.closure.matrix.rows) (reaches self.back.matrix.rows) (holds self.placed) m in
    let told = first_from_Range _ c.find.new.self _ c.find.result IsFree (λ m. IsFree m → ⊥) c.find.ensures.ran (λ m q k. search rules) (λ m q k. search rules) in
    let found = rw c.in_ok-moment.was at told in
    (omega (arith, found.1, self.counted), found.2, λ v h. found.3 v (omega arith) h)
