-- Commands read one after another.
use Rattle.std.proofs.Common.{◌≡◌, ℕ, ◌+◌, ◌≤◌, Bool, false, ◌||◌, List, [], ◌∷◌, ◌++◌, length, get_or, drop, sym, refl, ap, ◌∙◌, subst, arith}
use Rattle.std.proofs.lemmas.List.{append_assoc, append-nil, length-append, length-drop, drop-drop, flat_map_more}
use Rattle.std.specs.List.{flat_map}
use Rattle.algebra.specs.Placements.{Row}
use Rattle.scene.specs.declared.refusals.Refusal.{Refusal}
use Rattle.scene.specs.Checks.{First, Clear}
use Rattle.scene.proofs.Marking.{or_false, or_group}
use Rattle.table.specs.declared.commands.Command.{Command}
use Rattle.table.specs.Commands.{encoding, encoded, Begins, stated, declares, declared, of_command, Stand}
use Rattle.table.specs.Readings.{refused, Begun, struck, Reads, stopped}

-- the commands that stand up to a place, with what the reader holds of them
pub record Progress (bytes : List ℕ) (c place : ℕ) (known : List Bool) (rows : List Row) (ks : List Command) : Type 0 where
  pub begun : Begun bytes c ks (drop place bytes)
  pub at : place ≡ length (encoded c ks)
  pub within : place ≤ length bytes
  pub rows_are : rows ≡ flat_map stated ks
  pub marks : (t : ℕ) → get_or known t false ≡ declared ks t

declared_push : (ks : List Command) (k : Command) (t : ℕ) → declared (ks ++ k ∷ []) t ≡ (declared ks t || declares k t)
declared_push [] k t = or_false (declares k t)
declared_push (l ∷ ks) k t = ap (λ b. declares l t || b) (declared_push ks k t) ∙ or_group (declares l t) (declared ks t) (declares k t)

stand_push : (n : ℕ) (done ks : List Command) (k : Command) → Stand n done ks → Clear (of_command n (declared (done ++ ks)) k) → Stand n done (ks ++ k ∷ [])
stand_push n done [] k s h = (subst (λ ls. Clear (of_command n (declared ls) k)) (append-nil done) h, tt)
stand_push n done (l ∷ ks) k s h = (s.0, stand_push n (done ++ l ∷ []) ks k s.1 (subst (λ ls. Clear (of_command n (declared ls) k)) (sym (append_assoc done (l ∷ []) ks)) h))

joined_push : {X : Type 0} (f : Command → List X) (ks : List Command) (k : Command) → flat_map f ks ++ f k ≡ flat_map f (ks ++ k ∷ [])
joined_push f ks k = flat_map_more f [] ks k

pub no_progress : (bytes : List ℕ) (c : ℕ) (known : List Bool) → length bytes ≤ 32768 → bytes ≡ 16 ∷ c ∷ drop 2 bytes → ((t : ℕ) → get_or known t false ≡ false) → Progress bytes c 2 known [] []
no_progress bytes c known short is none = record {
  begun = record { short = short; cut = is; stand = tt };
  at = refl;
  within = omega (arith, ap length is);
  rows_are = refl;
  marks = none;
}

module _ (bytes : List ℕ) (c place : ℕ) (known : List Bool) (rows : List Row) (ks : List Command) (p : Progress bytes c place known rows ks) (k : Command) (b : Begins (drop place bytes) k) where
  -- the next command does not stand
  pub refused_here : (r : Refusal) → First (of_command (c + 1) (λ t. get_or known t false) k) r → Reads bytes (refused r place)
  refused_here r f =
      let same : (λ t. get_or known t false) ≡ declared ks = (λ j t. p.marks t j) in
      subst (λ at. Reads bytes (refused r at)) (sym p.at)
      (stopped c ks (drop place bytes) p.begun (struck k (drop (length (encoding k)) (drop place bytes)) b (subst (λ d. First (of_command (c + 1) d k) r) same f)))

  -- it stands
  pub progress_more : (known' : List Bool) (rows' : List Row) → Clear (of_command (c + 1) (λ t. get_or known t false) k)
      → ((t : ℕ) → get_or known' t false ≡ (get_or known t false || declares k t)) → rows' ≡ rows ++ stated k
      → Progress bytes c (place + length (encoding k)) known' rows' (ks ++ k ∷ [])
  progress_more known' rows' h marks add =
      let same : (λ t. get_or known t false) ≡ declared ks = (λ j t. p.marks t j) in
      let rest : drop (place + length (encoding k)) bytes ≡ drop (length (encoding k)) (drop place bytes) = sym (drop-drop (length (encoding k)) place bytes) in
      let cut : bytes ≡ encoded c (ks ++ k ∷ []) ++ drop (place + length (encoding k)) bytes =
      p.begun.cut ∙ ap (λ zs. encoded c ks ++ zs) (b ∙ ap (λ zs. encoding k ++ zs) (sym rest))
      ∙ sym (append_assoc (encoded c ks) (encoding k) (drop (place + length (encoding k)) bytes))
      ∙ ap (λ zs. zs ++ drop (place + length (encoding k)) bytes) (flat_map_more encoding (16 ∷ c ∷ []) ks k) in
      record {
        begun = record { short = p.begun.short; cut = cut; stand = stand_push (c + 1) [] ks k p.begun.stand (subst (λ d. Clear (of_command (c + 1) d k)) same h) };
        at = ap (λ n. n + length (encoding k)) p.at ∙ sym (length-append (encoded c ks) (encoding k)) ∙ ap length (flat_map_more encoding (16 ∷ c ∷ []) ks k);
        within = omega (arith, length-drop place bytes, ap length b, length-append (encoding k) (drop (length (encoding k)) (drop place bytes)), p.within);
        rows_are = add ∙ ap (λ rs. rs ++ stated k) p.rows_are ∙ joined_push stated ks k;
        marks = λ t. marks t ∙ ap (λ v. v || declares k t) (p.marks t) ∙ sym (declared_push ks k t);
      }
