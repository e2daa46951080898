-- Sections that are written one behind another.
use Rattle.rw_commands.proofs.Common.{Change, Err, FilesRead, GrowsBy, GrowsBy-trans, IfOk, IsSomeAnd, Job, List, MatchResult, None, Ok, Option, PrefixGrew}
use Rattle.rw_commands.proofs.Common.{PrefixGrew-right, Refusal, Result, RunEnd, SinkView, Some, [], ap, change, inl, inr, length, refl, status_of_end, subst}
use Rattle.rw_commands.proofs.Common.{sym, ℕ, ◌++◌, ◌+◌, ◌∙◌, ◌∷◌, ◌≡◌, ◌≤◌}
use Rattle.rw_base.proofs.Common.{All, append-nil, append_assoc, arith}
use Rattle.std.proofs.lemmas.List.Elements.{All-head, All-tail}
use Rattle.rw_inputs.specs.Edits.{Batch, after_batch}
use Rattle.rw_inputs.specs.Inputs.{Inputs, value_at}
use Rattle.rw_commands.specs.Sections.{AppendsAll, AppendsFirst, AppendsOne, AreFirstSections, AreSections, StopsAmong, StopsAmongPieces, StopsAtOne}
use Rattle.rw_commands.specs.Sections.{GivenInputs}
use Rattle.rw_commands.specs.Sections.{edited_given, first_given, joined_sections}
use Rattle.rw_commands.specs.Policy.{PolicyFile as Rules}
use Rattle.rw_commands.specs.RunText.{CountsSections, IsPlainText, IsRulesText}
use Rattle.rw_commands.specs.Written.{Appends, AppendsFront, CountsOfFiles, IsFrontOf, IsOne, OfBoth, Stops, WritesSectionWise, batches_in, sections_behind}
use Rattle.rw_words.specs.declared.job.Job.TheVariants.{Simulate, Run}
use Rattle.rw_commands.specs.declared.refusal.Refusal.TheVariants.{CannotWrite, NoMemory}
use Rattle.rw_commands.specs.declared.extras.Extras.{Extras}

-- what stays has grown by nothing
pub still : (old now : Option (List ℕ)) → now ≡ old → GrowsBy old now []
still old None same = tt
still None (Some now) same = absurd cc
still (Some before) (Some now) same = let one : now ≡ before = cc in one ∙ sym (append-nil before)

-- a text with nothing behind it
grown : (old now : Option (List ℕ)) (text : List ℕ) → GrowsBy old now text → GrowsBy old now (text ++ [])
grown old now text grew = subst (λ t. GrowsBy old now t) (sym (append-nil text)) grew

-- one text alone
pub one_grown : (old now : Option (List ℕ)) (texts : List (List ℕ)) (text : List ℕ) → texts ≡ text ∷ []
    → GrowsBy old now (joined_sections texts) → GrowsBy old now text
one_grown old now texts text one grew = subst (λ t. GrowsBy old now t) (ap joined_sections one ∙ append-nil text) grew

-- what holds of all holds behind the first
pub rest_of : {A : Type 0} (P : A → Type 0) (all : List A) (first : A) (rest : List A) → all ≡ first ∷ rest → All P all → All P rest
rest_of P all first rest is holds = All-tail P first rest (subst (All P) is holds)

pub first_of_all : {A : Type 0} (P : A → Type 0) (all : List A) (first : A) (rest : List A) → all ≡ first ∷ rest → All P all → P first
first_of_all P all first rest is holds = All-head P first rest (subst (All P) is holds)

module _ (IsSection : ℕ → GivenInputs → RunEnd → List ℕ → Type 0) where
  -- the section is the last one
  pub last_section : (number : ℕ) (given : GivenInputs) (out : Change SinkView) (end : RunEnd)
      → AppendsOne IsSection number given out end → AppendsAll IsSection number given [] out end
  last_section number given out end one =
      record { texts = one.text ∷ []; are = (one.text, refl, one.is); grew = grown out.before.contents out.after.contents one.text one.grew }

  -- it stops at the first one
  pub stops_here : (number : ℕ) (given : GivenInputs) (batches : List Batch) (out : Change SinkView) (why : Refusal)
      → StopsAtOne IsSection number given out why → StopsAmong IsSection number given batches out why
  stops_here number given batches out NoMemory stops =
      record { texts = []; are = tt; fewer = omega arith; grew = still out.before.contents out.after.contents stops }
  stops_here number given batches out CannotWrite stops =
      record { done = []; text = stops.1; are = (stops.0, stops.2); grew = stops.3; rose = stops.4 }
  stops_here number given batches out why stops = absurd stops

  -- memory is wanting behind it
  pub stops_behind : (number : ℕ) (given : GivenInputs) (batches : List Batch) (out : Change SinkView) (end : RunEnd) → 1 ≤ length batches
      → AppendsOne IsSection number given out end → AppendsFirst IsSection number given batches out
  stops_behind number given batches out end more one =
      record { texts = one.text ∷ []; are = (end, one.is); fewer = more; grew = grown out.before.contents out.after.contents one.text one.grew }

  module _ (number : ℕ) (given : GivenInputs) (edited : Inputs) (batch : Batch) (batches : List Batch) (old now after : SinkView) (end : RunEnd)
      (one : AppendsOne IsSection number given (change old now) end)
      (values : value_at edited ≡ after_batch batch (value_at given.inputs)) where
    -- more sections follow
    pub more_sections : (last : RunEnd) → AppendsAll IsSection (number + 1) (edited_given given edited) batches (change now after) last
        → AppendsAll IsSection number given (batch ∷ batches) (change old after) last
    more_sections last more = record {
      texts = one.text ∷ more.texts;
      are = (end, one.text, more.texts, refl, one.is, (edited, values, more.are));
      grew = GrowsBy-trans old.contents now.contents after.contents one.text (joined_sections more.texts) one.grew more.grew;
    }

    first_with : (texts : List (List ℕ)) → AreFirstSections IsSection (number + 1) (edited_given given edited) batches texts
        → AreFirstSections IsSection number given (batch ∷ batches) (one.text ∷ texts)
    first_with [] are = (end, one.is)
    first_with (text ∷ texts) are = ((end, one.is), (edited, values, are))

    -- or it stops among those
    pub stops_later : (why : Refusal) → StopsAmong IsSection (number + 1) (edited_given given edited) batches (change now after) why
        → StopsAmong IsSection number given (batch ∷ batches) (change old after) why
    stops_later NoMemory stops = record {
      texts = one.text ∷ stops.texts;
      are = first_with stops.texts stops.are;
      fewer = let few = stops.fewer in omega (arith, few);
      grew = GrowsBy-trans old.contents now.contents after.contents one.text (joined_sections stops.texts) one.grew stops.grew;
    }
    stops_later CannotWrite stops = record {
      done = one.text ∷ stops.done;
      text = stops.text;
      are = first_with (stops.done ++ stops.text ∷ []) stops.are;
      grew = subst (λ t. PrefixGrew old.contents after.contents t) (sym (append_assoc one.text (joined_sections stops.done) stops.text))
          (PrefixGrew-right old.contents now.contents after.contents one.text (joined_sections stops.done ++ stops.text) one.grew stops.grew);
      rose = let least = one.later in let rose = stops.rose in omega (arith, least, rose);
    }
    stops_later why stops = absurd stops

    pub goes_on : (result : Result RunEnd Refusal)
        → MatchResult result (AppendsAll IsSection (number + 1) (edited_given given edited) batches (change now after))
        (StopsAmong IsSection (number + 1) (edited_given given edited) batches (change now after))
        → MatchResult result (AppendsAll IsSection number given (batch ∷ batches) (change old after))
        (StopsAmong IsSection number given (batch ∷ batches) (change old after))
    goes_on (Ok last) more = more_sections last more
    goes_on (Err why) stops = stops_later why stops

-- ---- of a job

-- one text that was made
pub made_whole : (job : Job) (extras : Extras) (files : FilesRead) (out : Change SinkView) (status : ℕ) (text : List ℕ)
    → IsOne job extras files status text
    → GrowsBy out.before.contents out.after.contents text → Appends job extras files out status
made_whole job extras files out status text one grew =
    record { texts = text ∷ []; is = one.0; grew = grown out.before.contents out.after.contents text grew }

pub made_front : (job : Job) (extras : Extras) (files : FilesRead) (out : Change SinkView) (status : ℕ) (text : List ℕ)
    → IsOne job extras files status text
    → PrefixGrew out.before.contents out.after.contents text → AppendsFront job extras files out
made_front job extras files out status text one grew = record { done = []; text = text; is = one.1; grew = grew }

-- pieces that are a front of the text of a job
pub pieces_stopped : (job : Job) (extras : Extras) (files : FilesRead) (out : Change SinkView) (AreFirst : List (List ℕ) → Type 0)
    → WritesSectionWise job → ((texts : List (List ℕ)) → AreFirst texts → IsFrontOf job extras files texts)
    → (why : Refusal) → StopsAmongPieces AreFirst (sections_behind job files) out why → Stops job extras files out why
pieces_stopped job extras files out AreFirst runs front NoMemory stops =
    inr (record { runs = runs; texts = stops.texts; are = front stops.texts stops.are; fewer = stops.fewer; grew = stops.grew })
pieces_stopped job extras files out AreFirst runs front CannotWrite stops =
    (record { done = stops.done; text = stops.text; is = front (stops.done ++ stops.text ∷ []) stops.are; grew = stops.grew }, stops.rose)
pieces_stopped job extras files out AreFirst runs front why stops = absurd stops

-- a run without rules
pub one_run : (extras : Extras) (files : FilesRead) (inputs : Inputs) (end : RunEnd) (status : ℕ) (text : List ℕ) → files.inputs ≡ Some inputs
    → status ≡ status_of_end end → IsPlainText files.basin extras 0 (first_given inputs) end text → IsOne Simulate extras files status text
one_run extras files inputs end status text there same is = (
  (
    end,
    same,
    subst (λ o. IsSomeAnd o (λ i. AreSections (IsPlainText files.basin extras) 0 (first_given i) [] end (text ∷ []))) (sym there)
        (text, refl, is),
  ),
  subst (λ o. IsSomeAnd o (λ i. AreFirstSections (IsPlainText files.basin extras) 0 (first_given i) [] (text ∷ []))) (sym there) (end, is),
)

-- runs by rules
module _ (files : FilesRead) (policy : Rules) (inputs : Inputs) (has_policy : files.policy ≡ Some policy)
    (has_inputs : files.inputs ≡ Some inputs) where
  with_both : (P : Rules → Inputs → Type 0) → P policy inputs → OfBoth files P
  with_both P is =
      subst (λ o. IsSomeAnd o (λ p. IsSomeAnd files.inputs (P p))) (sym has_policy) (subst (λ o. IsSomeAnd o (P policy)) (sym has_inputs) is)

  pub rules_counted : (batches : List Batch) (steps : Change ℕ) → batches ≡ batches_in files → (ended : Result RunEnd Refusal)
      (result : Result ℕ Refusal) → MatchResult ended (λ end. result ≡ Ok (status_of_end end)) (λ why. result ≡ Err why)
      → IfOk ended (λ end. CountsSections files.basin policy inputs batches steps) → IfOk result (λ status. CountsOfFiles files steps)
  rules_counted batches steps same (Ok end) result is counts =
      subst (λ r. IfOk r (λ status. CountsOfFiles files steps)) (sym is)
      (with_both (λ p i. CountsSections files.basin p i (batches_in files) steps)
      (subst (λ bs. CountsSections files.basin policy inputs bs steps) same counts))
  rules_counted batches steps same (Err why) result is counts = subst (λ r. IfOk r (λ status. CountsOfFiles files steps)) (sym is) tt

  module _ (extras : Extras) (out : Change SinkView) where
    pub rules_appended : (end : RunEnd) (status : ℕ) → status ≡ status_of_end end
        → AppendsAll (IsRulesText files.basin policy extras) 0 (first_given inputs) (batches_in files) out end → Appends Run extras files out status
    rules_appended end status same all = record {
      texts = all.texts;
      is = (end, same, with_both (λ p i. AreSections (IsRulesText files.basin p extras) 0 (first_given i) (batches_in files) end all.texts) all.are);
      grew = all.grew;
    }

    front : (texts : List (List ℕ)) → AreFirstSections (IsRulesText files.basin policy extras) 0 (first_given inputs) (batches_in files) texts
        → IsFrontOf Run extras files texts
    front texts are = with_both (λ p i. AreFirstSections (IsRulesText files.basin p extras) 0 (first_given i) (batches_in files) texts) are

    pub rules_stopped : (why : Refusal) → StopsAmong (IsRulesText files.basin policy extras) 0 (first_given inputs) (batches_in files) out why
        → Stops Run extras files out why
    rules_stopped why stops = pieces_stopped Run extras files out _ (inl refl) front why stops

    -- their status, where they were written
    pub rules_written : (batches : List Batch) → batches ≡ batches_in files → (ended : Result RunEnd Refusal) (result : Result ℕ Refusal)
        → MatchResult ended (λ end. result ≡ Ok (status_of_end end)) (λ why. result ≡ Err why)
        → MatchResult ended (AppendsAll (IsRulesText files.basin policy extras) 0 (first_given inputs) batches out)
        (StopsAmong (IsRulesText files.basin policy extras) 0 (first_given inputs) batches out)
        → MatchResult result (Appends Run extras files out) (Stops Run extras files out)
    rules_written batches same (Ok end) result is all =
        subst (λ r. MatchResult r (Appends Run extras files out) (Stops Run extras files out)) (sym is)
        (rules_appended end (status_of_end end) refl
        (subst (λ bs. AppendsAll (IsRulesText files.basin policy extras) 0 (first_given inputs) bs out end) same all))
    rules_written batches same (Err why) result is stops =
        subst (λ r. MatchResult r (Appends Run extras files out) (Stops Run extras files out)) (sym is)
        (rules_stopped why (subst (λ bs. StopsAmong (IsRulesText files.basin policy extras) 0 (first_given inputs) bs out why) same stops))
