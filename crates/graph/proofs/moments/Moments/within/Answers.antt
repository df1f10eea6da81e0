use Rattle.std.proofs.Common.{◌≡◌, ◌/◌, ◌%◌, ◌^◌, ◌<◌, length, get_or, refl, subst, arith, rules}
use Rattle.std.proofs.lemmas.Bool.{false≢true}
use Rattle.std.proofs.lemmas.Slice.Zip.{zip_turn, zip_end}
use Rattle.graph.proofs.BitLaws.{words_within, within_or}
use Rattle.graph.proofs.moments.Moments.within.Goals as goal

pub returns-then-word-wider : goal.returns-then-word-wider
returns-then-word-wider c =
    let a = c.args.self.words in
    let b = c.args.other.words in
    let n = length c.loop-word.yielded in
    let t = zip_turn a b c.loop-word.yielded c.into_iter-word-iterator.result c.loop-word.word-iterator c.next.new.self c.next.result (cc) (cc) c.loop-word.yielded_by (c.in-Some.word, c.in-Some.wider) c.in-Some.is c.next.ensures.steps in
    let long : length a ≡ 4 = search rules in
    let fits : c.in-Some.word.now < 2 ^ 64 = search rules in (
      λ e. absurd (false≢true e),
      λ each. absurd (c.if-word-wider.true (rw (t.2 0, t.3 0) (words_within a b n (omega arith) (subst (λ v. v < 2 ^ 64) (t.2 0) fits) each))),
    )

pub returns : goal.returns
returns c =
    let a = c.args.self.words in
    let b = c.args.other.words in
    let long : length a ≡ 4 = search rules in
    let long-b : length b ≡ 4 = search rules in
    let all = zip_end a b c.loop-word.yielded c.into_iter-word-iterator.result c.loop-word.word-iterator c.next.new.self c.next.result (cc) (cc) c.loop-word.yielded_by c.in-None.is c.next.ensures.steps in
    (λ _ k h e. within_or (get_or a (k / 64) 0) (get_or b (k / 64) 0) (k % 64) (c.loop-word.invariant (k / 64) (omega arith)) e, λ _. refl)
