-- `eqtrace_session::Cursor::order` meets its contract. Field by field, so that another cursor is refused at the cursor.
use mathlib.Core.Path.{refl}
use Rattle.eqtrace_session.proofs.StepLaws.{cursor_next}
use Rattle.eqtrace_session.proofs.Cursor.order.Goals as goal

pub returns : goal.returns
returns c =
    let carried = c.carry_out-carried.result in
    let carries = c.carry_out-carried.ensures in
    record {
      end = c.line_end-e.result;
      ends = c.line_end-e.ensures;
      carried = carried;
      carries = carries;
      length_is = refl;
      cursor = cursor_next _ carries.answer _ _ _ _ _ _ carries.refused_is c.next_place-next.ensures;
    }
