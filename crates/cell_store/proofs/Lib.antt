mod StepsMade
