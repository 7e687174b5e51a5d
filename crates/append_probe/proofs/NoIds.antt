-- A text that has no Message-ID, or another one.
use Rattle.std.proofs.Common.{◌≡◌, ℕ, ◌<◌, ◌≤◌, length, subst, arith, false, List, sym, ◌∙◌, ap}
use Rattle.mail_header.specs.Identifier.{HasSecond, IsTooLong, IsBadForm, IsId, id_of}
use Rattle.imap_model.proofs.Finding.{names_differ}
use Rattle.append_probe.specs.Marked.{IsIdentifier, is_only, has_id}

-- a text without a Message-ID hasn't this one
pub not_twice : (text id : List ℕ) (at : ℕ) → HasSecond text at → false ≡ has_id id text
not_twice text id at h = sym (ap (is_only id) h.3)

pub not_long : (text id : List ℕ) (n : ℕ) → IsIdentifier id → IsTooLong text n → false ≡ has_id id text
not_long text id n i h =
    let few : length id ≤ 512 = i.few in let many : 512 < n = h.many in
    sym (ap (is_only id) h.one.1 ∙ names_differ (id_of h.body) id (λ e. let same : n ≡ length id = h.size
    ∙ ap length e in absurd (omega arith)))

pub not_bad : (text id : List ℕ) (at : ℕ) → IsIdentifier id → IsBadForm text at → false ≡ has_id id text
not_bad text id at i h = sym (ap (is_only id) h.one.1 ∙ names_differ (id_of h.body) id (λ e. h.unfit.no_id (subst IsId (sym e) i.form)))
