-- Spaces, bytes and words: what is read, and what is spelled.
use Rattle.std.proofs.Common.{◌≡◌, ◌≢◌, ℕ, false, List, [], ◌∷◌, ◌++◌, length, take, drop, refl, ap, sym, ◌∙◌, subst, append-nil, Ok}
use Rattle.std.proofs.lemmas.List.Folds.{length-prefix_len}
use Rattle.std.specs.Prelude.{◌==◌}
use Rattle.std.specs.List.{prefix_len}
use Rattle.imap_model.specs.Words.{AreSpaces, Spaced}
use Rattle.imap_model.proofs.Cutting.{Stops as Ends}
use Rattle.imap_response.specs.Leaf.{is_space, gap_at, blank_at, end_at, mark_at}
use Rattle.imap_response.proofs.spelling.Results.{is_byte, byte_is, not_byte, byte_not, some_len, len_some, len_none, ok_is, ok_first, ok_second}
use Rattle.imap_response.proofs.spelling.Runs.{AllPass, IsCut, cut_behind, cut_len, reading_cuts}

pub spaces_pass : (text : List ℕ) → AreSpaces text → AllPass is_space text
spaces_pass [] all = tt
spaces_pass (b ∷ text) all = (byte_is b 32 all.0, spaces_pass text all.1)

pub pass_spaces : (text : List ℕ) → AllPass is_space text → AreSpaces text
pass_spaces [] all = tt
pass_spaces (b ∷ text) all = (is_byte b 32 all.0, pass_spaces text all.1)

-- no space comes first
pub no_space : (rest : List ℕ) → Ends is_space rest → (later : List ℕ) → rest ≢ 32 ∷ later
no_space [] ends later is = cc
no_space (b ∷ rest) ends later is = let first : b ≡ 32 = cc in not_byte b 32 ends first

pub ends_space : (rest : List ℕ) → ((later : List ℕ) → rest ≢ 32 ∷ later) → Ends is_space rest
ends_space [] other = tt
ends_space (b ∷ rest) other = byte_not b 32 (λ is. other rest (ap (λ (x : ℕ). x ∷ rest) is))

-- spaces and what doesn't begin with one
pub gap_cut : (text gap rest : List ℕ) → AreSpaces gap → ((later : List ℕ) → rest ≢ 32 ∷ later) → text ≡ gap ++ rest → IsCut is_space text gap rest
gap_cut text gap rest spaces no_more whole = record { all = spaces_pass gap spaces; ends = ends_space rest no_more; whole = whole }

-- one or more spaces
pub gap_spells : (text rest : List ℕ) → gap_at text ≡ Ok rest → Spaced text rest
unfolding gap_at
gap_spells text rest is =
    let both = ok_second (prefix_len is_space text == 0) (length text) (Ok (drop (prefix_len is_space text) text)) rest is in
    let behind = ok_is (drop (prefix_len is_space text) text) rest both.1 in
    let cut = reading_cuts is_space text in
    let some : (length (take (prefix_len is_space text) text) == 0) ≡ false = ap (λ (n : ℕ). n == 0) (length-prefix_len is_space text) ∙ both.0 in
    record {
      gap = take (prefix_len is_space text) text;
      spaces = (len_some (take (prefix_len is_space text) text) some, pass_spaces _ cut.all);
      whole = cut.whole ∙ ap (λ (r : List ℕ). take (prefix_len is_space text) text ++ r) behind;
      no_more = no_space rest (subst (Ends is_space) behind cut.ends);
    }

pub gap_reads : (text rest : List ℕ) → Spaced text rest → gap_at text ≡ Ok rest
unfolding gap_at
gap_reads text rest spaced =
    let cut = gap_cut text spaced.gap rest spaced.spaces.1 spaced.no_more spaced.whole in
    let len : prefix_len is_space text ≡ length spaced.gap = ap (prefix_len is_space) spaced.whole ∙ cut_len is_space spaced.gap rest cut.all cut.ends in
    let some : (prefix_len is_space text == 0) ≡ false = ap (λ (n : ℕ). n == 0) len ∙ some_len spaced.gap spaced.spaces.0 in
    rw some (ap Ok (cut_behind is_space text spaced.gap rest cut))

-- spaces, also none, and the end
pub all_spaces : (text : List ℕ) → blank_at text ≡ [] → AreSpaces text
all_spaces text none =
    let cut = reading_cuts is_space text in
    let whole : text ≡ take (prefix_len is_space text) text = cut.whole ∙ ap (λ (r : List ℕ). take (prefix_len is_space text) text ++ r) none ∙ append-nil _ in
    subst AreSpaces (sym whole) (pass_spaces _ cut.all)

pub spaces_end : (text : List ℕ) → AreSpaces text → blank_at text ≡ []
spaces_end text spaces = cut_behind is_space text text [] (gap_cut text text [] spaces (λ later is. cc) (sym (append-nil _)))

pub end_spells : (text : List ℕ) → end_at text ≡ Ok tt → AreSpaces text
unfolding end_at
end_spells text is =
    let both = ok_first (length (blank_at text) == 0) (length (blank_at text)) (Ok tt) tt is in
    all_spaces text (len_none (blank_at text) both.0)

pub end_reads : (text : List ℕ) → AreSpaces text → end_at text ≡ Ok tt
unfolding end_at
end_reads text spaces = let none = spaces_end text spaces in rw none refl

-- one byte
pub mark_spells : (byte : ℕ) (text rest : List ℕ) → mark_at byte text ≡ Ok rest → text ≡ byte ∷ rest
unfolding mark_at
mark_spells byte [] rest is = absurd cc
mark_spells byte (first ∷ more) rest is =
    let both = ok_first (first == byte) (length (first ∷ more)) (Ok more) rest is in
    let here : first ≡ byte = is_byte first byte both.0 in
    let there : more ≡ rest = ok_is more rest both.1 in
    cc

pub mark_here : (byte : ℕ) (rest : List ℕ) → mark_at byte (byte ∷ rest) ≡ Ok rest
unfolding mark_at
mark_here byte rest = rw (byte_is byte byte refl) refl

pub mark_reads : (byte : ℕ) (text rest : List ℕ) → text ≡ byte ∷ rest → mark_at byte text ≡ Ok rest
mark_reads byte text rest is = ap (mark_at byte) is ∙ mark_here byte rest
