-- Numbers only grow while they are read; one turn of the scanner.
use Rattle.rw_base.proofs.Common.{◌≡◌, ◌<◌, ◌≤◌, ◌-◌, ◌+◌, ◌*◌, ◌++◌, ◌∙◌, ℕ, zero, suc, List, [], ◌∷◌, arith, drop, take, length, slice_index_or}
use Rattle.rw_base.proofs.Common.{refl, sym, ap, subst, true}
use Rattle.std.proofs.lemmas.List.{append_assoc, append-nil, length-drop}
use Rattle.rpl_parse.specs.declared.token.Span.{Span}
use Rattle.rpl_parse.specs.Tokens.{Tok, text, Lined, lined, bytes_in}
use Rattle.rpl_parse.specs.Scan.{number_of, scan, Scanned, all, bad_at, led_by, gap, token, bad, front, head_is, line_behind}

pub number_grows : (value_there : ℕ) (bytes : List ℕ) → value_there ≤ number_of value_there bytes
number_grows value_there [] = omega arith
number_grows value_there (byte ∷ bytes) = let grown = number_grows (10 * value_there + (byte - 48)) bytes in omega arith

pub number_over : (place : ℕ) (digit_bytes : List ℕ) (value_before most value_there : ℕ) → place < length digit_bytes
    → most < 10 * value_before + (slice_index_or digit_bytes place 0 - 48)
    → number_of value_before (drop place digit_bytes) ≡ value_there → most < value_there
number_over place [] value_before most value_there less over value_is = absurd (omega arith)
number_over zero (digit ∷ digit_bytes) value_before most value_there less over value_is = let grown =
    number_grows (10 * value_before + (digit - 48)) digit_bytes in omega (arith, value_is)
number_over (suc place) (digit ∷ digit_bytes) value_before most value_there less over value_is =
    number_over place digit_bytes value_before most value_there (omega arith) over value_is

pub led_again : (first_lined second_lined : List Lined) (scanned : Scanned)
    → led_by first_lined (led_by second_lined scanned) ≡ led_by (first_lined ++ second_lined) scanned
led_again first_lined second_lined (all further_lined) = ap all (sym (append_assoc first_lined second_lined further_lined))
led_again first_lined second_lined (bad_at bad_line) = refl

skipped : (skipped_bytes line : ℕ) (bytes : List ℕ) → scan skipped_bytes line bytes ≡ scan 0 line (drop skipped_bytes bytes)
unfolding scan
skipped zero line bytes = refl
skipped (suc skipped_bytes) line [] = refl
skipped (suc skipped_bytes) line (byte ∷ bytes) = skipped skipped_bytes line bytes

behind_piece : (skipped_bytes line byte : ℕ) (bytes : List ℕ) → 0 < skipped_bytes
    → scan (skipped_bytes - 1) line bytes ≡ scan 0 line (drop skipped_bytes (byte ∷ bytes))
behind_piece zero line byte bytes some_skipped = absurd (omega arith)
behind_piece (suc skipped_bytes) line byte bytes some_skipped = let same_count : suc skipped_bytes - 1 ≡ skipped_bytes = omega arith in
    rw same_count (skipped skipped_bytes line bytes)

none_dropped : (count : ℕ) (bytes : List ℕ) → bytes ≡ [] → drop count bytes ≡ []
none_dropped zero bytes is_empty = is_empty
none_dropped (suc count) bytes is_empty = rw is_empty refl

pub drop_more : (first second : ℕ) (bytes : List ℕ) → drop second (drop first bytes) ≡ drop (first + second) bytes
drop_more zero second bytes = let same_sum : 0 + second ≡ second = omega arith in rw same_sum refl
drop_more (suc first) second [] = none_dropped second _ (none_dropped (suc first) [] refl) ∙ sym (none_dropped (suc first + second) [] refl)
drop_more (suc first) second (byte ∷ bytes) = let same_sum : suc first + second ≡ suc (first + second) = omega arith in
    rw same_sum (drop_more first second bytes)

module _ (line : ℕ) where
  pub scan_spent : (bytes : List ℕ) → length bytes ≡ 0 → scan 0 line bytes ≡ all []
  unfolding scan
  scan_spent [] front_is = refl
  scan_spent (byte ∷ bytes) front_is = absurd (omega arith)

  pub scan_bad : (bytes : List ℕ) → front bytes ≡ bad → 0 < length bytes → scan 0 line bytes ≡ bad_at line
  unfolding scan
  scan_bad [] front_is pos = absurd (omega arith)
  scan_bad (byte ∷ bytes) front_is pos = rw front_is refl

  pub scan_gap : (bytes : List ℕ) (size_there : ℕ) → front bytes ≡ gap size_there → 0 < size_there → 0 < length bytes
      → scan 0 line bytes ≡ scan 0 (line_behind line bytes) (drop size_there bytes)
  unfolding scan
  scan_gap [] size_there front_is some_size pos = absurd (omega arith)
  scan_gap (byte ∷ bytes) size_there front_is some_size pos =
      rw front_is (behind_piece size_there (line_behind line (byte ∷ bytes)) byte bytes some_size)

  pub scan_token : (bytes : List ℕ) (a_token : Tok) (size_there : ℕ) → front bytes ≡ token a_token size_there → 0 < size_there → 0 < length bytes
      → scan 0 line bytes ≡ led_by (lined a_token line ∷ []) (scan 0 line (drop size_there bytes))
  unfolding scan
  scan_token [] a_token size_there front_is some_size pos = absurd (omega arith)
  scan_token (byte ∷ bytes) a_token size_there front_is some_size pos =
      rw front_is (ap (led_by (lined a_token line ∷ [])) (behind_piece size_there line byte bytes some_size))

pub space_front : (bytes : List ℕ) → head_is 32 bytes ≡ true → front bytes ≡ gap 1
space_front [] is_space = absurd (cc is_space)
space_front (byte ∷ bytes) is_space = let same_byte : byte ≡ 32 = grind (arith, is_space) in rw same_byte refl

pub space_line : (line : ℕ) (bytes : List ℕ) → head_is 32 bytes ≡ true → line_behind line bytes ≡ line
space_line line [] is_space = absurd (cc is_space)
space_line line (byte ∷ bytes) is_space = let same_byte : byte ≡ 32 = grind (arith, is_space) in rw same_byte refl

-- the bytes of a string, behind its quote
pub quoted_there : (at size_there : ℕ) (source : List ℕ) (span : Span) → span.start ≡ at + 1 → span.end ≡ at + 1 + size_there
    → take size_there (drop 1 (drop at source)) ≡ bytes_in source span
quoted_there at size_there source span starts ends =
    let same_size : span.end - span.start ≡ size_there = omega (arith, starts, ends) in
    rw (same_size, starts, drop_more at 1 source) refl

-- One turn, behind some tokens, at a place of the text.
module _ (source : List ℕ) (whole : Scanned) (lined_tokens : List Lined) (line at : ℕ) (same : led_by lined_tokens (scan 0 line (drop at source)) ≡ whole) where
  left : at < length source → 0 < length (drop at source)
  left some_left = let dropped = length-drop at source in omega (arith, dropped)

  pub none_read : length source ≤ at → scan 0 line (drop at source) ≡ all []
  none_read none_left =
      let dropped = length-drop at source in
      scan_spent line (drop at source) (omega (arith, dropped))

  pub all_read : length source ≤ at → whole ≡ all lined_tokens
  all_read none_left = sym same ∙ ap (led_by lined_tokens) (none_read none_left) ∙ ap all (append-nil lined_tokens)

  pub bad_read : front (drop at source) ≡ bad → at < length source → whole ≡ bad_at line
  bad_read front_is some_left = sym same ∙ ap (led_by lined_tokens) (scan_bad line (drop at source) front_is (left some_left))

  pub gap_read : (size_there : ℕ) → front (drop at source) ≡ gap size_there → 0 < size_there → at < length source
      → led_by lined_tokens (scan 0 (line_behind line (drop at source)) (drop (at + size_there) source)) ≡ whole
  gap_read size_there front_is pos some_left =
      ap (λ source_bytes. led_by lined_tokens (scan 0 (line_behind line (drop at source)) source_bytes)) (sym (drop_more at size_there source))
      ∙ ap (led_by lined_tokens) (sym (scan_gap line (drop at source) size_there front_is pos (left some_left)))
      ∙ same

  pub space_read : head_is 32 (drop at source) ≡ true → at < length source → led_by lined_tokens (scan 0 line (drop (at + 1) source)) ≡ whole
  space_read is_space some_left =
      subst (λ line_there. led_by lined_tokens (scan 0 line_there (drop (at + 1) source)) ≡ whole)
      (space_line line (drop at source) is_space) (gap_read 1 (space_front (drop at source) is_space) (omega arith) some_left)

  pub token_read : (a_token : Tok) (size_there : ℕ) → front (drop at source) ≡ token a_token size_there → 0 < size_there → at < length source
      → led_by (lined_tokens ++ lined a_token line ∷ []) (scan 0 line (drop (at + size_there) source)) ≡ whole
  token_read a_token size_there front_is pos some_left =
      ap (λ source_bytes. led_by (lined_tokens ++ lined a_token line ∷ []) (scan 0 line source_bytes)) (sym (drop_more at size_there source))
      ∙ sym (led_again lined_tokens (lined a_token line ∷ []) (scan 0 line (drop size_there (drop at source))))
      ∙ ap (led_by lined_tokens) (sym (scan_token line (drop at source) a_token size_there front_is pos (left some_left)))
      ∙ same

-- a string that is found
pub quoted_found : (at size_there : ℕ) (source bytes : List ℕ) (span : Span) → bytes ≡ drop at source → at < length source → span.start ≡ at + 1
    → span.end ≡ at + 1 + size_there
    → token (text (take size_there (drop 1 bytes))) (size_there + 2) ≡ front bytes → size_there + 2 ≤ length bytes
    → (front (drop at source) ≡ token (text (bytes_in source span)) (size_there + 2)) × (0 < size_there + 2) × (at + (size_there + 2) ≤ length source)
quoted_found at size_there source bytes span bytes_are some_left starts ends value within =
    let token_there = subst (λ dropped. token (text (take size_there (drop 1 dropped))) (size_there + 2) ≡ front dropped) bytes_are value in
    let within_there = subst (λ dropped. size_there + 2 ≤ length dropped) bytes_are within in
    let dropped = length-drop at source in (
      sym token_there
          ∙ ap (λ source_bytes. token (text source_bytes) (size_there + 2)) (quoted_there at size_there source span starts ends),
      omega arith,
      omega (arith, within_there, dropped),
    )
