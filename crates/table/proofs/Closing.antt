-- What the reader answers once no command follows.
use Rattle.std.proofs.Common.{◌≡◌, ℕ, ◌+◌, ◌<◌, ◌≤◌, true, leb, List, [], ◌∷◌, length, drop, Some, None, Option, MatchOption, ok_or, Ok, Err, vec_items, Result, sym, refl, ap, ◌∙◌, subst, arith}
use Rattle.std.proofs.lemmas.Bool.{le-leb, lt-leb, cond-true, cond-false}
use Rattle.std.specs.List.{flat_map}
use Rattle.scene.specs.declared.refusals.Refusal.{Refusal}
use Rattle.scene.specs.declared.refusals.Refusal.TheVariants.{TableMalformed, TooManyRows}
use Rattle.scene.specs.Scenes.{all_fit}
use Rattle.table.specs.declared.commands.Command.{Command}
use Rattle.table.specs.declared.reader.ReadError.{ReadError}
use Rattle.table.specs.declared.reader.ReadError.TheVariants.{Refused, NoMemory}
use Rattle.table.specs.declared.reader.Stop.{Stop}
use Rattle.table.specs.declared.tables.Table.{Table}
use Rattle.table.specs.Commands.{stated}
use Rattle.table.specs.Readings.{Answer, found, refused, NoEnd, closed, malformed, ended, Reads, stopped, Only}
use Rattle.table.specs.Told.{Told, fault_at, Held, Commanded}
use Rattle.table.proofs.Fitting.{stands_fit}
use Rattle.table.proofs.OneAnswer.{one_answer}

-- what is told of an answer that is known to be none, or some
pub none_of : {V : Type 0} (P : Type 0) (Q : V → Type 0) (o : Option V) → o ≡ None → MatchOption o P Q → P
none_of P Q o is told = subst (λ o. MatchOption o P Q) is told

pub some_of : {V : Type 0} (P : Type 0) (Q : V → Type 0) (o : Option V) (v : V) → o ≡ Some v → MatchOption o P Q → Q v
some_of P Q o v is told = subst (λ o. MatchOption o P Q) is told

-- what `?` takes and hands out after `ok_or`
module _ {V E : Type 0} (e : E) where
  pub lacking : (o : Option V) (r : Result V E) (f : E) → r ≡ ok_or o e → r ≡ Err f → (o ≡ None) × (f ≡ e)
  lacking None r f is was = (refl, cc)
  lacking (Some v) r f is was = let z : ◌≡◌ {A = ℕ} 0 1 = cc in absurd (omega arith)

  pub given : (o : Option V) (r : Result V E) (v : V) → r ≡ ok_or o e → r ≡ Ok v → o ≡ Some v
  given None r v is was = let z : ◌≡◌ {A = ℕ} 0 1 = cc in absurd (omega arith)
  given (Some w) r v is was = let same : w ≡ v = cc in ap Some same

module _ (bytes : List ℕ) where
  pub only_told : (r : Result Table ReadError) → Told (Reads bytes) r → Told (Only bytes) r
  only_told (Ok t) h = λ b k. one_answer bytes b (found t.moments (vec_items t.rows)) k h
  only_told (Err (Refused f)) h = λ b k. one_answer bytes b (refused f.refusal f.place) k h
  only_told (Err NoMemory) h = tt

  pub told_refusal : (e : ReadError) (r : Refusal) (place : ℕ) → e ≡ fault_at place r → Reads bytes (refused r place) → Told (Reads bytes) (Err e)
  told_refusal e r place is h = subst (λ x. Told (Reads bytes) (Err x)) (sym is) h

  pub told_command : (c : ℕ) (e : ReadError) → Commanded bytes c (Err e) → Told (Reads bytes) (Err e)
  told_command c (Refused f) h = h
  told_command c NoMemory h = tt

  module _ (c : ℕ) (s : Stop) (ks : List Command) (h : Held bytes c s ks) where
    pub rows_fit : all_fit (c + 1) (vec_items s.rows) ≡ true
    rows_fit = ap (all_fit (c + 1)) h.rows ∙ stands_fit (c + 1) [] ks h.begun.stand

    pub no_end : NoEnd (drop s.place bytes) → Reads bytes (refused TableMalformed s.place)
    no_end e = subst (λ p. Reads bytes (refused TableMalformed p)) (sym h.at) (stopped c ks (drop s.place bytes) h.begun (malformed h.last e))

    module _ (more : List ℕ) (is : drop s.place bytes ≡ 0x00 ∷ more) where
      closing : (a : Answer) → closed (c + 1) ks (s.place + 1) more ≡ a → Reads bytes a
      closing a e = subst (Reads bytes) (ap (λ p. closed (c + 1) ks (p + 1) more) (sym h.at) ∙ e) (stopped c ks (drop s.place bytes) h.begun (ended more is))

      late : (xs : List ℕ) → 0 < length xs → closed (c + 1) ks (s.place + 1) xs ≡ refused TableMalformed (s.place + 1)
      late [] l = absurd (omega arith)
      late (x ∷ xs) l = refl

      pub bytes_late : 0 < length more → Reads bytes (refused TableMalformed (s.place + 1))
      bytes_late l = closing (refused TableMalformed (s.place + 1)) (late more l)

      none_late : (xs : List ℕ) → length xs ≡ 0 → closed (c + 1) ks (s.place + 1) xs ≡ closed (c + 1) ks (s.place + 1) []
      none_late [] l = refl
      none_late (x ∷ xs) l = absurd (omega arith)

      pub rows_many : length more ≡ 0 → 4096 < length (vec_items s.rows) → Reads bytes (refused TooManyRows 0)
      rows_many l m = closing (refused TooManyRows 0) (none_late more l ∙ cond-false (leb (length (flat_map stated ks)) 4096) _ _ (lt-leb (length (flat_map stated ks)) 4096 (omega (arith, ap length h.rows))))

      pub whole : length more ≡ 0 → length (vec_items s.rows) ≤ 4096 → Reads bytes (found (c + 1) (vec_items s.rows))
      whole l m = closing (found (c + 1) (vec_items s.rows))
          (none_late more l ∙ cond-true (leb (length (flat_map stated ks)) 4096) _ _ (le-leb (length (flat_map stated ks)) 4096 (omega (arith, ap length h.rows))) ∙ ap (found (c + 1)) (sym h.rows))
