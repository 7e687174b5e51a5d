-- The worked states, by computation.
use Rattle.std.proofs.Common.{refl}
use Rattle.book_laws.proofs.laws.worked_rows.Goals as goal

pub returns : goal.returns
returns c = record {
  counts_right = record { nothing_yet = refl; begun = refl; taken = refl; done = refl; unsure = refl; refused = refl; by_others = refl; appended = refl };
  counts_wrong =
      record {
        deed_without_intent = refl;
        two_deeds = refl;
        done_without_deed = refl;
        done_twice = refl;
        unsure_with_two = refl;
        refused_while_it_waited = refl;
        done_at_a_lower_uid = refl;
        of_no_action = refl;
        of_another_kind = refl;
      };
  open_right = record { stored_not_yet = refl; stored = refl; put_not_yet = refl; put = refl; put_beside_an_earlier_one = refl };
  open_wrong =
      record {
        mark_above_all = refl;
        mark_above_the_row = refl;
        mark_of_the_effect = refl;
        earlier_uidnext = refl;
        anothers_message = refl;
        removed_by_another = refl;
        another_validity = refl;
        no_mailbox = refl;
      };
  fresh_right = record { level = refl; behind = refl; went = refl };
  fresh_wrong = record { lacks_a_row_at_the_mark = refl; other_flags = refl; mark_of_a_store = refl; mark_above_all = refl; kept_what_went = refl };
}
