use Rattle.std.proofs.Common.{rules}
use Rattle.day.proofs.reading.RecordReader.record.Goals as goal
use Rattle.day.proofs.reading.RecordReader.record.Goals.{in-Party+in_ok-text-in-Party, in-Intervals+in_ok-number-in-Intervals, in-Curve+in_ok-curve-in-Curve, in-Quarter+in_ok-quarter-in-Quarter, in-Emergency+in_ok-emergency-in-Emergency, in-Loss+in_ok-loss-in-Loss, in-Listed+in_ok-listed-in-Listed, in-Clear+in_ok-source-in-Clear, in-Bus+in_ok-bus-in-Bus, in-Adders+in_ok-adders-in-Adders, in-Unit+in_ok-unit-in-Unit, in-Site+in_ok-rule-in-Site, in-Period+in_ok-state-in-Period, in-Deny+in_ok-number-in-Deny, in-Undeny+in_ok-number-in-Undeny, in-Adjust+in_ok-adjust-in-Adjust, in-Unadjust+in_ok-number-in-Unadjust, in-Settle+in_ok-settlement-in-Settle, in-Restate+in_ok-settlement-in-Restate, in-Void+in_ok-slot-in-Void, in-Balance+in_ok-party-in-Balance, in-Entry+in_ok-entry-in-Entry, in-Energy+in_ok-source-in-Energy}

pub returns-clause-fields : goal.returns-clause-fields
returns-clause-fields c =
    elim c.match-name.branch [
      | in-Party+in_ok-text-in-Party w ↦ search rules
      | in-Intervals+in_ok-number-in-Intervals w ↦ search rules
      | in-Curve+in_ok-curve-in-Curve w ↦ search rules
      | in-Quarter+in_ok-quarter-in-Quarter w ↦ search rules
      | in-Emergency+in_ok-emergency-in-Emergency w ↦ search rules
      | in-Loss+in_ok-loss-in-Loss w ↦ search rules
      | in-Listed+in_ok-listed-in-Listed w ↦ search rules
      | in-Clear+in_ok-source-in-Clear w ↦ search rules
      | in-Bus+in_ok-bus-in-Bus w ↦ search rules
      | in-Adders+in_ok-adders-in-Adders w ↦ search rules
      | in-Unit+in_ok-unit-in-Unit w ↦ search rules
      | in-Site+in_ok-rule-in-Site w ↦ search rules
      | in-Period+in_ok-state-in-Period w ↦ search rules
      | in-Deny+in_ok-number-in-Deny w ↦ search rules
      | in-Undeny+in_ok-number-in-Undeny w ↦ search rules
      | in-Adjust+in_ok-adjust-in-Adjust w ↦ search rules
      | in-Unadjust+in_ok-number-in-Unadjust w ↦ search rules
      | in-Settle+in_ok-settlement-in-Settle w ↦ search rules
      | in-Restate+in_ok-settlement-in-Restate w ↦ search rules
      | in-Void+in_ok-slot-in-Void w ↦ search rules
      | in-Balance+in_ok-party-in-Balance w ↦ search rules
      | in-Entry+in_ok-entry-in-Entry w ↦ search rules
      | in-Energy+in_ok-source-in-Energy w ↦ search rules
    ]
