-- Where the first declaration is cut; that what is due is one thing.
use Rattle.rw_base.proofs.Common.{◌≡◌, ◌<◌, ◌+◌, ◌∙◌, ◌++◌, ℕ, Bool, true, false, List, [], ◌∷◌, length, map, map-append, Option, same_Some}
use Rattle.rw_base.proofs.Common.{Some, None, Ok, Err, refl, sym, ap, subst, arith, if◌then◌else◌, inl, inr, IfSome}
use Rattle.std.proofs.lemmas.List.{append_assoc}
use Rattle.rpl_tree.specs.Tree.{Declared}
use Rattle.rpl_parse.specs.declared.token.TokenAt.{TokenAt}
use Rattle.rpl_parse.specs.Tokens.{Lined, token_seen, lined_of, toks}
use Rattle.rpl_parse.specs.Scan.{Scanned, all, bad_at, led_by, tokens}
use Rattle.rpl_parse.specs.Declarations.{Piece, piece, is_end, token_joined, pieces, begins_rule, begins_function, one_more_if, is_full, Due}
use Rattle.rpl_parse.specs.Declarations.{GrammarRefusal, bad_token, bad_declaration, too_many, IsDue, IsDueOf, IsReading, some_reading, one_reading}
use Rattle.rpl_parse.specs.Cut.{IsRefusedFirst, IsRefusedAs, TakesTokens, first_line}
use Rattle.rpl_parse.specs.ReadingDeclared.{read_declared}
use Rattle.rpl_parse.proofs.Both.{one_declaration, no_declaration, declared_sound}

abbrev pub lineds : List ℕ → List TokenAt → List Lined
lineds source ts = map (lined_of source) ts

-- each token belongs to the first piece of those that follow
abbrev pub joined : List ℕ → List TokenAt → List Piece → List Piece
joined source [] ps = ps
joined source (t ∷ ts) ps = token_joined (lined_of source t) (joined source ts ps)

abbrev First : List ℕ → List TokenAt → Piece
First source ts = piece (toks source ts) (first_line ts)

-- none of these tokens ends a declaration
abbrev pub Unended : List ℕ → List TokenAt → Type 0
Unended source ts = (us : List Lined) → pieces (lineds source ts ++ us) ≡ joined source ts (pieces us)

joined_more : (source : List ℕ) (ts : List TokenAt) (t : TokenAt) (ps : List Piece)
    → joined source (ts ++ t ∷ []) ps ≡ joined source ts (token_joined (lined_of source t) ps)
joined_more source [] t ps = refl
joined_more source (other ∷ ts) t ps = ap (token_joined (lined_of source other)) (joined_more source ts t ps)

joined_end : (source : List ℕ) (ts : List TokenAt) (t : TokenAt) (ps : List Piece)
    → joined source ts (piece (token_seen source t.token ∷ []) t.line ∷ ps) ≡ First source (ts ++ t ∷ []) ∷ ps
joined_end source [] t ps = refl
joined_end source (other ∷ ts) t ps = ap (token_joined (lined_of source other)) (joined_end source ts t ps)

joined_last : (source : List ℕ) (t : TokenAt) (ts : List TokenAt) → joined source (t ∷ ts) [] ≡ First source (t ∷ ts) ∷ []
joined_last source t [] = refl
joined_last source t (other ∷ ts) = ap (token_joined (lined_of source t)) (joined_last source other ts)

one_more : (source : List ℕ) (ts : List TokenAt) (t : TokenAt) (us : List Lined)
    → lineds source (ts ++ t ∷ []) ++ us ≡ lineds source ts ++ lined_of source t ∷ us
one_more source ts t us = ap (λ ls. ls ++ us) (map-append (lined_of source) ts (t ∷ [])) ∙ append_assoc (lineds source ts) (lined_of source t ∷ []) us

-- one token more, which ends the declaration or doesn't
module _ (source : List ℕ) (ts : List TokenAt) (open_so : Unended source ts) (t : TokenAt) where
  by_end : (us : List Lined) (test : Bool) → is_end (token_seen source t.token) ≡ test
      → pieces (lineds source (ts ++ t ∷ []) ++ us)
      ≡ joined source ts (if test then piece (token_seen source t.token ∷ []) t.line ∷ pieces us
      else token_joined (lined_of source t) (pieces us))
  by_end us test ends =
      ap pieces (one_more source ts t us) ∙ open_so (lined_of source t ∷ us)
      ∙ ap (λ b. joined source ts (if b then piece (token_seen source t.token ∷ []) t.line ∷ pieces us
      else token_joined (lined_of source t) (pieces us))) ends

  pub unended_more : is_end (token_seen source t.token) ≡ false → Unended source (ts ++ t ∷ [])
  unended_more ends us = by_end us false ends ∙ sym (joined_more source ts t (pieces us))

  pub ended : is_end (token_seen source t.token) ≡ true → (us : List Lined)
      → pieces (lineds source (ts ++ t ∷ []) ++ us) ≡ First source (ts ++ t ∷ []) ∷ pieces us
  ended ends us = by_end us true ends ∙ joined_end source ts t (pieces us)

-- the last declaration of a text may lack its end
pub last_cut : (source : List ℕ) (ts : List TokenAt) → Unended source ts → 0 < length ts → (us : List Lined) → all us ≡ all []
    → pieces (lineds source ts ++ us) ≡ First source ts ∷ pieces us
last_cut source [] open_so some us none = absurd (omega arith)
last_cut source (t ∷ ts) open_so some us none =
    let empty : us ≡ [] = ap (λ (s : Scanned). listed s) none in
    rw empty (open_so [] ∙ joined_last source t ts)
  where
    listed : Scanned → List Lined
    listed (all vs) = vs
    listed (bad_at line) = []

pub led_none : (scanned : Scanned) → led_by [] scanned ≡ scanned
led_none (all ts) = refl
led_none (bad_at line) = refl

-- before the first token
pub none_led : (source : List ℕ) (ts : List TokenAt) (whole : Scanned) → ts ≡ [] → led_by (lineds source ts) whole ≡ whole
none_led source ts whole none = rw none (led_none whole)

pub none_unended : (source : List ℕ) (ts : List TokenAt) → ts ≡ [] → Unended source ts
none_unended source ts none = rw none (λ us. refl)

pub takes_ended : (source : List ℕ) (ts more : List TokenAt) (t : TokenAt) (whole behind : Scanned) → more ≡ ts ++ t ∷ []
    → length more ≡ length ts + 1 → led_by (lineds source more) behind ≡ whole → Unended source ts → is_end (token_seen source t.token) ≡ true
    → TakesTokens source more whole behind
takes_ended source ts more t whole behind more_is grown read_so open_so ends = record {
  read = sym read_so;
  cut = λ some us here. rw more_is (ended source ts open_so t ends us);
  spent = λ none. absurd (omega (arith, grown, none));
}

pub takes_spent : (source : List ℕ) (ts : List TokenAt) (whole behind : Scanned) → led_by (lineds source ts) behind ≡ whole → Unended source ts
    → behind ≡ all [] → TakesTokens source ts whole behind
takes_spent source ts whole behind read_so open_so none = record {
  read = sym read_so;
  cut = λ some us here. last_cut source ts open_so some us (sym here ∙ none);
  spent = λ _. none;
}

-- What is due at the tokens from a place on, for the declarations from number k on.
abbrev pub IsDueFrom : ℕ → ℕ → ℕ → List Declared → Scanned → Due → Type 0
IsDueFrom k rules functions before (all ts) due = IsDue k rules functions before (pieces ts) due
IsDueFrom k rules functions before (bad_at line) due = due ≡ Err (bad_token line)

pub due_spent : (number rules functions : ℕ) (before : List Declared) (whole : Scanned) → whole ≡ all []
    → IsDueFrom number rules functions before whole (Ok before)
due_spent number rules functions before whole none = subst (λ s. IsDueFrom number rules functions before s (Ok before)) (sym none) refl

-- Of the first declaration, which has these tokens.
module _ (source : List ℕ) (number rules functions : ℕ) (before : List Declared) (ts : List TokenAt) where
  cut_due : (us : List Lined) (whole : Scanned) (due : Due) → TakesTokens source ts whole (all us) → 0 < length ts
      → IsDue number rules functions before (First source ts ∷ pieces us) due → IsDueFrom number rules functions before whole due
  cut_due us whole due takes some is_due =
      subst (λ s. IsDueFrom number rules functions before s due) (sym takes.read)
      (subst (λ ps. IsDue number rules functions before ps due) (sym (takes.cut some us refl)) is_due)

  bad_due : (line : ℕ) (whole : Scanned) (due : Due) → TakesTokens source ts whole (bad_at line) → due ≡ Err (bad_token line)
      → IsDueFrom number rules functions before whole due
  bad_due line whole due takes is_due = subst (λ s. IsDueFrom number rules functions before s due) (sym takes.read) is_due

  pub due_refused : (whole behind : Scanned) (why : Option GrammarRefusal) (refusal : GrammarRefusal)
      → TakesTokens source ts whole behind → 0 < length ts → IfSome why (IsRefusedAs source number rules functions ts)
      → IsRefusedFirst behind why refusal → IsDueFrom number rules functions before whole (Err refusal)
  due_refused whole (bad_at line) why refusal takes some refused first = bad_due line whole (Err refusal) takes (ap Err first)
  due_refused whole (all us) None refusal takes some refused first = absurd (cc first)
  due_refused whole (all us) (Some other) refusal takes some (inl full) first =
      cut_due us whole (Err refusal) takes some (inl (full.0, ap Err (sym (same_Some other refusal first) ∙ full.1)))
  due_refused whole (all us) (Some other) refusal takes some (inr bad) first =
      cut_due us whole (Err refusal) takes some
      (inr (inl (bad.0, no_declaration (toks source ts) bad.1, ap Err (sym (same_Some other refusal first) ∙ bad.2))))

  pub refused_told : (whole behind : Scanned) (why told : Option GrammarRefusal)
      → TakesTokens source ts whole behind → 0 < length ts → IfSome why (IsRefusedAs source number rules functions ts)
      → IfSome told (IsRefusedFirst behind why) → ((due : Due) → IsDueFrom number rules functions before whole due → IsReading source due)
      → IfSome told (λ refusal. IsReading source (Err refusal))
  refused_told whole behind why None takes some refused first go = tt
  refused_told whole behind why (Some refusal) takes some refused first go =
      go (Err refusal) (due_refused whole behind why refusal takes some refused first)

  pub due_later : (whole behind : Scanned) (d : Declared) (due : Due) (rules_now functions_now : ℕ) (after : List Declared)
      → TakesTokens source ts whole behind → 0 < length ts
      → is_full (toks source ts) rules functions ≡ false → read_declared (toks source ts) ≡ Some d
      → rules_now ≡ one_more_if (begins_rule (toks source ts)) rules → functions_now ≡ one_more_if (begins_function (toks source ts)) functions
      → after ≡ before ++ d ∷ []
      → IsDueFrom (number + 1) rules_now functions_now after behind due → IsDueFrom number rules functions before whole due
  due_later whole (bad_at line) d due rules_now functions_now after takes some fits reads rules_are functions_are after_is is_due =
      bad_due line whole due takes is_due
  due_later whole (all us) d due rules_now functions_now after takes some fits reads rules_are functions_are after_is is_due =
      cut_due us whole due takes some
      (inr (inr (fits, (d, declared_sound (toks source ts) d reads, rw (← rules_are, ← functions_are, ← after_is) is_due))))

-- something is due
some_due : (number rules_before functions_before : ℕ) (before : List Declared) (more_pieces : List Piece) → (due : Due)
    × IsDue number rules_before functions_before before more_pieces due
some_due number rules_before functions_before before [] = (Ok before, refl)
some_due number rules_before functions_before before (a_piece ∷ more_pieces) =
    by_full (is_full a_piece.toks rules_before functions_before) refl
    (λ d. some_due (number + 1) (one_more_if (begins_rule a_piece.toks) rules_before)
    (one_more_if (begins_function a_piece.toks) functions_before)
    (before ++ d ∷ []) more_pieces)
  where
    Later : Declared → Type 0
    Later declaration = (due : Due)
        × IsDue (number + 1) (one_more_if (begins_rule a_piece.toks) rules_before) (one_more_if (begins_function a_piece.toks) functions_before)
        (before ++ declaration ∷ []) more_pieces due

    by_read : (read : Option Declared) → read_declared a_piece.toks ≡ read → is_full a_piece.toks rules_before functions_before ≡ false
        → ((declaration : Declared) → Later declaration)
        → (due : Due) × IsDue number rules_before functions_before before (a_piece ∷ more_pieces) due
    by_read None reads_so fits later = (Err (bad_declaration number a_piece.line), inr (inl (fits, no_declaration a_piece.toks reads_so, refl)))
    by_read (Some declaration) reads_so fits later =
        ((later declaration).0, inr (inr (fits, (declaration, declared_sound a_piece.toks declaration reads_so, (later declaration).1))))

    by_full : (full : Bool) → is_full a_piece.toks rules_before functions_before ≡ full → ((declaration : Declared) → Later declaration) → (due : Due)
        × IsDue number rules_before functions_before before (a_piece ∷ more_pieces) due
    by_full true reads_so later = (Err (too_many number), inl (reads_so, refl))
    by_full false reads_so later = by_read (read_declared a_piece.toks) refl reads_so later

some_due_of : (scanned : Scanned) → (due : Due) × IsDueOf scanned due
some_due_of (all further_lined) = some_due 1 0 0 [] (pieces further_lined)
some_due_of (bad_at bad_line) = (Err (bad_token bad_line), refl)

pub some_reading_holds : some_reading
some_reading_holds source = some_due_of (tokens source)

-- what is due is one thing
one_due : (number rules_before functions_before : ℕ) (before : List Declared) (more_pieces : List Piece) (first_due second_due : Due)
    → IsDue number rules_before functions_before before more_pieces first_due
    → IsDue number rules_before functions_before before more_pieces second_due → first_due ≡ second_due
one_due number rules_before functions_before before [] first_due second_due first_is second_is = first_is ∙ sym second_is
one_due number rules_before functions_before before (a_piece ∷ more_pieces) first_due second_due (inl first_is) (inl second_is) = first_is.1
    ∙ sym second_is.1
one_due number rules_before functions_before before (a_piece ∷ more_pieces) first_due second_due (inl first_is) (inr (inl second_is)) =
    absurd (cc (sym first_is.0 ∙ second_is.0))
one_due number rules_before functions_before before (a_piece ∷ more_pieces) first_due second_due (inl first_is) (inr (inr second_is)) =
    absurd (cc (sym first_is.0 ∙ second_is.0))
one_due number rules_before functions_before before (a_piece ∷ more_pieces) first_due second_due (inr (inl first_is)) (inl second_is) =
    absurd (cc (sym second_is.0 ∙ first_is.0))
one_due number rules_before functions_before before (a_piece ∷ more_pieces) first_due second_due (inr (inl first_is)) (inr (inl second_is)) =
    first_is.2 ∙ sym second_is.2
one_due number rules_before functions_before before (a_piece ∷ more_pieces) first_due second_due (inr (inl first_is)) (inr (inr second_is)) =
    absurd (first_is.1 second_is.1.0 second_is.1.1)
one_due number rules_before functions_before before (a_piece ∷ more_pieces) first_due second_due (inr (inr first_is)) (inl second_is) =
    absurd (cc (sym second_is.0 ∙ first_is.0))
one_due number rules_before functions_before before (a_piece ∷ more_pieces) first_due second_due (inr (inr first_is)) (inr (inl second_is)) =
    absurd (second_is.1 first_is.1.0 first_is.1.1)
one_due number rules_before functions_before before (a_piece ∷ more_pieces) first_due second_due (inr (inr first_is)) (inr (inr second_is)) =
    let same : second_is.1.0 ≡ first_is.1.0 = one_declaration a_piece.toks second_is.1.0 first_is.1.0 second_is.1.1 first_is.1.1 in
    one_due (number + 1) _ _ (before ++ first_is.1.0 ∷ []) more_pieces first_due second_due first_is.1.2
    (subst (λ d.
    IsDue (number + 1) (one_more_if (begins_rule a_piece.toks) rules_before) (one_more_if (begins_function a_piece.toks) functions_before)
    (before ++ d ∷ []) more_pieces second_due) same second_is.1.2)

due_of : (scanned : Scanned) (first_due second_due : Due) → IsDueOf scanned first_due → IsDueOf scanned second_due → first_due ≡ second_due
due_of (all further_lined) first_due second_due first_is second_is = one_due 1 0 0 [] (pieces further_lined) first_due second_due first_is second_is
due_of (bad_at bad_line) first_due second_due first_is second_is = first_is ∙ sym second_is

pub one_reading_holds : one_reading
one_reading_holds source first_due second_due first_is second_is = due_of (tokens source) first_due second_due first_is second_is
