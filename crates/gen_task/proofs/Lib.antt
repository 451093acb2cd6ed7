mod DrawLaws
mod OutputLaws
