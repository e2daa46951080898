-- A line that is read is what is written of what it was read as.
use Rattle.rw_base.proofs.Common.{◌≡◌, ℕ, List, [], ◌∷◌, refl, sym, ap, ap₂, subst, ◌∙◌, Option, Some, option_map, codes, AllByRecursion, bytes_eq}
use Rattle.rw_base.proofs.Common.{decimal, signed_decimal, bytes_eq-Decides}
use Rattle.rpl_code.specs.declared.instruction.Instruction.{Instruction}
use Rattle.rpl_code.specs.declared.instruction.Instruction.TheVariants as I
use Rattle.rpl_code.specs.declared.block.BlockHead.TheVariants.{Rule, Function}
use Rattle.rpl_code.specs.declared.said.Said.{Said}
use Rattle.rpl_code.specs.declared.said.Said.TheVariants as S
use Rattle.rpl_code.specs.Bounds.{IsNumber, IsLength, IsCodeName, AreKinds, IsInstruction, IsHead}
use Rattle.rpl_code.specs.Parting.{parted}
use Rattle.rpl_code.specs.Words.{if_so, entry_at, number_in, count_in, length_in, quantity_in, truth_in, name_in, slot_spelt, kind_in, kinds_in}
use Rattle.rpl_code.specs.Spelling.{texts_joined, kind_text, kinds_text, slot_text, truth_text, word_of, operands_of}
use Rattle.rpl_code.specs.Reading.{alone, with_one, with_two, instruction_of, function_line, put_line, said_by}
use Rattle.rpl_code.proofs.WordsBack.{none_some, if_so_back, mapped_back, then_back, entry_back, joined_parted, number_back, count_back, length_back}
use Rattle.rpl_code.proofs.WordsBack.{quantity_back, truth_back, name_back, AreNames, slot_back, kind_back, kinds_back}

-- the words of a line that says this
abbrev pub words_said : Said → List (List ℕ)
words_said S.Heading = codes "CODE" ∷ codes "1" ∷ []
words_said (S.Opening Rule) = codes "RULE" ∷ []
words_said (S.Opening (Function result parameters)) = codes "FUNCTION" ∷ kind_text result ∷ kinds_text parameters ∷ []
words_said (S.Locals kinds) = codes "LOCALS" ∷ kinds_text kinds ∷ []
words_said (S.Instruction i) = word_of i ∷ operands_of i
words_said S.Ending = codes "END" ∷ []

-- what it says can be spelt
abbrev pub IsSaid : Said → Type 0
IsSaid S.Heading = Unit {0}
IsSaid (S.Opening head) = IsHead head
IsSaid (S.Locals kinds) = AreKinds kinds
IsSaid (S.Instruction i) = IsInstruction i
IsSaid S.Ending = Unit {0}

abbrev pub Spoken : List (List ℕ) → Said → Type 0
Spoken words says = (words ≡ words_said says) × IsSaid says

-- ---- lines of one word

alone_spoken : AllByRecursion (λ (row : (List ℕ) × Said). Spoken (row.0 ∷ []) row.1) alone
alone_spoken = (
  (refl, tt),
  (
    (refl, tt),
    (
      (refl, tt),
      (
        (refl, tt),
        (
          (refl, tt),
          (
            (refl, tt),
            (
              (refl, tt),
              (
                (refl, tt),
                (
                  (refl, tt),
                  (
                    (refl, tt),
                    (
                      (refl, tt),
                      (
                        (refl, tt),
                        (
                          (refl, tt),
                          (
                            (refl, tt),
                            (
                              (refl, tt),
                              (
                                (refl, tt),
                                (
                                  (refl, tt),
                                  (
                                    (refl, tt),
                                    (
                                      (refl, tt),
                                      (
                                        (refl, tt),
                                        (
                                          (refl, tt),
                                          ((refl, tt), ((refl, tt), ((refl, tt), ((refl, tt), ((refl, tt), ((refl, tt), ((refl, tt), tt))))))),
                                        ),
                                      ),
                                    ),
                                  ),
                                ),
                              ),
                            ),
                          ),
                        ),
                      ),
                    ),
                  ),
                ),
              ),
            ),
          ),
        ),
      ),
    ),
  ),
)

-- ---- lines of two words

abbrev pub Speaks : List ℕ → (List ℕ → Option Said) → Type 0
Speaks word reads = (one : List ℕ) (says : Said) → reads one ≡ Some says → Spoken (word ∷ one ∷ []) says

-- a word that is followed by one that stands for x
made_back : {A : Type 0} (word : List ℕ) (make : A → Instruction) (text : A → List ℕ) (Is : A → Type 0) (reads : List ℕ → Option A)
    → ((x : A) (one : List ℕ) → reads one ≡ Some x → (one ≡ text x) × Is x)
    → ((x : A) → Is x → Spoken (word ∷ text x ∷ []) (S.Instruction (make x)))
    → Speaks word (λ one. instruction_of make (reads one))
made_back word make text Is reads back spoken one says e =
    let found = mapped_back (λ x. S.Instruction (make x)) (reads one) says e in
    let is = back found.0 one found.1 in
    let of_x = spoken found.0 is.1 in
    (ap (λ t. word ∷ t ∷ []) is.0 ∙ of_x.0 ∙ ap words_said found.2, subst IsSaid found.2 of_x.1)

count_speaks : (word : List ℕ) (make : ℕ → Instruction) → ((n : ℕ) → IsNumber n → Spoken (word ∷ decimal n ∷ []) (S.Instruction (make n)))
    → Speaks word (λ one. instruction_of make (count_in one))
count_speaks word make spoken = made_back word make decimal IsNumber count_in count_back spoken

length_speaks : (word : List ℕ) (make : ℕ → Instruction) → ((n : ℕ) → IsLength n → Spoken (word ∷ decimal n ∷ []) (S.Instruction (make n)))
    → Speaks word (λ one. instruction_of make (length_in one))
length_speaks word make spoken = made_back word make decimal IsLength length_in length_back spoken

name_speaks : (word : List ℕ) (make : List ℕ → Instruction) → ((n : List ℕ) → IsCodeName n → Spoken (word ∷ n ∷ []) (S.Instruction (make n)))
    → Speaks word (λ one. instruction_of make (name_in one))
name_speaks word make spoken = made_back word make (λ n. n) IsCodeName name_in name_back spoken

heading_speaks : Speaks (codes "CODE") (λ word. if_so (bytes_eq word (codes "1")) S.Heading)
heading_speaks one says e =
    let found = if_so_back (bytes_eq one (codes "1")) S.Heading says e in
    (ap (λ t. codes "CODE" ∷ t ∷ []) ((bytes_eq-Decides one (codes "1")).0 found.0) ∙ ap words_said found.1, subst IsSaid found.1 tt)

locals_speak : Speaks (codes "LOCALS") (λ word. option_map S.Locals (kinds_in word))
locals_speak one says e =
    let found = mapped_back S.Locals (kinds_in one) says e in
    let back = kinds_back found.0 one found.1 in
    (ap (λ t. codes "LOCALS" ∷ t ∷ []) back.0 ∙ ap words_said found.2, subst IsSaid found.2 back.1)

with_one_speak : AllByRecursion (λ (row : (List ℕ) × (List ℕ → Option Said)). Speaks row.0 row.1) with_one
with_one_speak = (
  heading_speaks,
  (
    locals_speak,
    (
      made_back (codes "num") I.Num signed_decimal _ quantity_in quantity_back (λ v h. (refl, h)),
      (
        made_back (codes "bool") I.Bool truth_text (λ b. Unit {0}) truth_in (λ b one e. (truth_back b one e, tt)) (λ b h. (refl, tt)),
        (
          made_back (codes "slot") (λ names. I.Slot names.0 names.1) (λ names. slot_text names.0 names.1) AreNames slot_spelt slot_back
              (λ names h. (refl, h)),
          (
            count_speaks (codes "load") I.Load (λ n h. (refl, h)),
            (
              count_speaks (codes "store") I.Store (λ n h. (refl, h)),
              (
                name_speaks (codes "toelevation") I.ToElevation (λ n h. (refl, h)),
                (
                  name_speaks (codes "tostorage") I.ToStorage (λ n h. (refl, h)),
                  (
                    name_speaks (codes "call") I.Call (λ n h. (refl, h)),
                    (
                      count_speaks (codes "invoke") I.Invoke (λ n h. (refl, h)),
                      (
                        length_speaks (codes "list") I.List (λ n h. (refl, h)),
                        (
                          length_speaks (codes "widen") I.Widen (λ n h. (refl, h)),
                          (
                            count_speaks (codes "jump") I.Jump (λ n h. (refl, h)),
                            (
                              count_speaks (codes "branch") I.Branch (λ n h. (refl, h)),
                              (
                                made_back (codes "target") I.Target kinds_text AreKinds kinds_in kinds_back (λ ks h. (refl, h)),
                                (
                                  count_speaks (codes "foreach") I.Foreach (λ n h. (refl, h)),
                                  (count_speaks (codes "map") I.Map (λ n h. (refl, h)), tt),
                                ),
                              ),
                            ),
                          ),
                        ),
                      ),
                    ),
                  ),
                ),
              ),
            ),
          ),
        ),
      ),
    ),
  ),
)

-- ---- lines of three words

abbrev pub SpeaksTwo : List ℕ → (List ℕ → List ℕ → Option Said) → Type 0
SpeaksTwo word reads = (one two : List ℕ) (says : Said) → reads one two ≡ Some says → Spoken (word ∷ one ∷ two ∷ []) says

function_speaks : SpeaksTwo (codes "FUNCTION") function_line
function_speaks one two says e =
    let first = then_back (λ kind. option_map (λ kinds. S.Opening (Function kind kinds)) (kinds_in two)) (kind_in one) says e in
    let second = mapped_back (λ kinds. S.Opening (Function first.0 kinds)) (kinds_in two) says first.2 in
    let result = kind_back first.0 one first.1 in
    let parameters = kinds_back second.0 two second.1 in
    (ap₂ (λ x y. codes "FUNCTION" ∷ x ∷ y ∷ []) result.0 parameters.0 ∙ ap words_said second.2, subst IsSaid second.2 (result.1, parameters.1))

put_speaks : SpeaksTwo (codes "put") put_line
put_speaks one two says e =
    let first =
    then_back (λ (names : (List ℕ) × (List ℕ)). option_map (λ n. S.Instruction (I.Put names.0 names.1 n)) (number_in 0 255 two))
    (slot_spelt one) says e in
    let second = mapped_back (λ n. S.Instruction (I.Put first.0.0 first.0.1 n)) (number_in 0 255 two) says first.2 in
    let names = slot_back first.0 one first.1 in
    let ahead = number_back 0 255 second.0 two second.1 in (
      ap₂ (λ x y. codes "put" ∷ x ∷ y ∷ []) names.0 ahead.0 ∙ ap words_said second.2,
      subst IsSaid second.2 (names.1.0, names.1.1, ahead.2),
    )

pub said_back : (words : List (List ℕ)) (says : Said) → said_by words ≡ Some says → Spoken words says
said_back [] says e = none_some says e
said_back (word ∷ []) says e = entry_back (λ w s. Spoken (w ∷ []) s) alone word says alone_spoken e
said_back (word ∷ one ∷ []) says e =
    let found = then_back (λ (reads : List ℕ → Option Said). reads one) (entry_at with_one word) says e in
    entry_back Speaks with_one word found.0 with_one_speak found.1 one says found.2
said_back (word ∷ one ∷ two ∷ []) says e =
    let found = then_back (λ (reads : List ℕ → List ℕ → Option Said). reads one two) (entry_at with_two word) says e in
    entry_back SpeaksTwo with_two word found.0 (function_speaks, (put_speaks, tt)) found.1 one two says found.2
said_back (word ∷ one ∷ two ∷ more ∷ words) says e = none_some says e

abbrev pub line_said : Said → List ℕ
line_said says = texts_joined 32 (words_said says)

pub line_back : (line : List ℕ) (says : Said) → said_by (parted 32 line) ≡ Some says → (line ≡ line_said says) × IsSaid says
line_back line says e = let back = said_back (parted 32 line) says e in (sym (joined_parted 32 line) ∙ ap (texts_joined 32) back.0, back.1)
